-- Plans: their text, which are taken, what they mean.
pub mod Text
pub mod Read
pub mod Rows
pub mod Fits
pub mod Taken
pub mod Allowed
pub mod Plan
pub mod Cases
pub mod Open
