-- The laws of plans.
pub mod Readings
pub mod Rows
pub mod Frames
pub mod Fitting
pub mod Loading
pub mod Placing
pub mod Cases
