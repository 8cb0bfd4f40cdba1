pub mod Packing
pub mod Plan
pub mod Laws
pub mod Runs
