pub mod LeastLemmas
pub mod LinesLemmas
pub mod MapInPlace
