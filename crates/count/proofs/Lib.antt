-- What the proofs of count share.
pub mod NthBits
pub mod NthDays
pub mod RunBits
pub mod Turning
pub mod HeldSets
