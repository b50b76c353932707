-- The laws of hex lines, for their own proofs and for whoever stands above.
pub mod Digits
pub mod Spelt
pub mod Numbers
pub mod Written
pub mod Puts
pub mod Fields
