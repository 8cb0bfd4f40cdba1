pub mod Lines
pub mod Registers
pub mod Section
pub mod Groups
pub mod Packing
pub mod Summary
pub mod Alone
pub mod Status
