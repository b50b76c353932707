-- What the proofs of days share.
pub mod Splits
pub mod Walks
pub mod YearWalks
pub mod Readied
pub mod Intervals
pub mod Answers
pub mod Nths
