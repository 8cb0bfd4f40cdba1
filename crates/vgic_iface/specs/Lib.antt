pub mod Rank
pub mod Active
pub mod Interface
