-- The laws of the zone, for its own proofs and for whoever stands above.
pub mod Good
pub mod Meaning
pub mod Stretches
pub mod Shown
pub mod Held
pub mod Over
pub mod Walk
