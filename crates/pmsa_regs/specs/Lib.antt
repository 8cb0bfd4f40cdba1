pub mod RegionRegs
