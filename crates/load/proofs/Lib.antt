-- What the proofs of load share.
pub mod Places
pub mod Rounds
pub mod ZoneRows
pub mod Zones
