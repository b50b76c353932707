-- Lines of hex digits.
pub mod Hex
pub mod Open
