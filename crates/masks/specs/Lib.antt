-- Masks: bit n stands for n.
pub mod Masks
pub mod Times
pub mod Open
