pub mod Encode
pub mod Groups
