pub mod Banks
pub mod Directory
pub mod Filled
pub mod Ownership
pub mod Pages
pub mod Places
