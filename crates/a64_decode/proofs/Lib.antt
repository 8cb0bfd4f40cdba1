mod Words
mod Numbers
mod Encoding
pub mod Distinct
pub mod Class
