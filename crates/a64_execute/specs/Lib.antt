pub mod Want
pub mod Branch
pub mod System
pub mod Execute
pub mod Transfer
pub mod Finish
