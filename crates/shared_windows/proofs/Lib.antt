pub mod Heard
pub mod Masks
pub mod Views
