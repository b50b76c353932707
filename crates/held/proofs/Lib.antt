-- What the proofs of held share.
pub mod Pairs
pub mod Cuts
pub mod Ones
pub mod Joined
pub mod Excepted
