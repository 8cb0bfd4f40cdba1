pub mod Fresh
pub mod Kept
pub mod Laid
pub mod Pages
pub mod Spots
pub mod Values
pub mod Written
