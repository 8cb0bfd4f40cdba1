pub mod Interrupts
pub mod Changes
pub mod Registers
pub mod Shape
pub mod Known
pub mod Laws
pub mod Cores
pub mod CoresLaws
