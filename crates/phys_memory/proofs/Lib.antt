pub mod Blocks
pub mod Memory
pub mod Numbers
pub mod Runs
pub mod Sharing
