-- What the proofs of lines share.
pub mod Ends
pub mod Counting
pub mod Joined
