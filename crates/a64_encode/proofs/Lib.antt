mod Equal
pub mod Made
