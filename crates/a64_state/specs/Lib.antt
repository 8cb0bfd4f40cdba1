pub mod Bits
pub mod Pstate
pub mod Mode
pub mod Parts
pub mod Core
pub mod CoreView
pub mod Registers
