mod Digits
pub mod Hex
