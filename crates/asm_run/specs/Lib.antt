pub mod Status
pub mod Words
pub mod Command
pub mod Call
pub mod Ruling
pub mod Outcome
pub mod Answers
pub mod Made
