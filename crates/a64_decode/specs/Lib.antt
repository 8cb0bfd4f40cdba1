pub mod Pattern
pub mod Operands
pub mod Table
pub mod Lawful
pub mod Access
pub mod Codes
pub mod Word
