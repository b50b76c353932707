-- The laws of masks, for their own proofs and for whoever stands above.
pub mod Bits
pub mod MaskFroms
pub mod WithBits
pub mod Nexts
pub mod Counts
pub mod Times
