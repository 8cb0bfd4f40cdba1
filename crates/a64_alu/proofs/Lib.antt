mod Bits
mod Signs
mod Rows
