-- Pieces of a line, read at a place.
pub mod Reads
pub mod Lists
pub mod Answers
pub mod Times
