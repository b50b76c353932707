-- The laws of a sheet line.
pub mod Refusing
pub mod Reading
pub mod Placing
pub mod Timing
pub mod Zoning
pub mod Offsets
pub mod Changes
pub mod Fives
pub mod Ruling
pub mod Moments
pub mod Tagged
pub mod Numbered
