pub mod Span
pub mod Edges
pub mod Whole
