pub mod Progress
pub mod Texts
pub mod Runs
pub mod Memory
pub mod Lists
pub mod Vms
pub mod Shown
pub mod Summarised
