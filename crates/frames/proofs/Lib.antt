-- What the proofs of frames share.
pub mod MonthDays
pub mod MonthSets
pub mod Positions
pub mod YearSets
pub mod Weeks
pub mod Allowed
pub mod Reversals
pub mod Ordinals
