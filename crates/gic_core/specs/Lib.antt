pub mod PortLine
pub mod Lines
pub mod Least
