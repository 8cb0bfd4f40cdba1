pub mod PortState
pub mod Registers
