pub mod Address
pub mod Shape
