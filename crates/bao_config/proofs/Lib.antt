pub mod Texts
pub mod Lists
pub mod Spelling
pub mod OnLiterals
pub mod Paths
pub mod Rows
