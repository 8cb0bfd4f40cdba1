pub mod LeastLemmas
pub mod ListsLemmas
