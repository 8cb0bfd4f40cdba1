mod Undefined
mod Kept
mod Ended
mod Numbers
mod Regions
