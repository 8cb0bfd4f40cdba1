pub mod Row
pub mod Value
pub mod Table
pub mod Access
pub mod Groups
