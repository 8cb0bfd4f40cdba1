pub mod Ascii
pub mod Newline
pub mod Digits
pub mod Cut
pub mod Rules
