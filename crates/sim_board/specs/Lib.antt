pub mod Memory
pub mod Step
pub mod Gap
pub mod Devices
pub mod Reached
pub mod Sound
pub mod SimBoard
