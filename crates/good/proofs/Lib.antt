-- What the proofs of good share.
pub mod Goods
