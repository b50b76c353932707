-- What loading a plan answers.
pub mod Loads
pub mod Zones
pub mod Open
