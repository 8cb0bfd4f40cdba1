pub mod Matches
mod Powers
pub mod Ranges
mod Repeated
mod Sums
