-- The laws of the parts of a rule.
pub mod Places
pub mod Valued
pub mod Heads
pub mod Whole
pub mod Gathered
