pub mod Reached
pub mod First
