pub mod Frame
pub mod Effects
pub mod Registers
pub mod Reached
pub mod Laws
