pub mod OneMore
pub mod Alone
pub mod Running
