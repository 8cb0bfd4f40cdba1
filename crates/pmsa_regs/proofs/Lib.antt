pub mod RegionRegsLemmas
