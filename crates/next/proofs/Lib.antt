-- The laws of next and previous.
pub mod Nearer
pub mod Shifts
pub mod Parts
pub mod Walked
pub mod Answered
pub mod Planned
pub mod Ready
