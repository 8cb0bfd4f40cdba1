pub mod LayersLemmas
pub mod RunsLemmas
