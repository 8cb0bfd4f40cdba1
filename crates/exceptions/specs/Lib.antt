pub mod Entry
pub mod Return
pub mod Syndrome
pub mod Assembled
