-- What C is answered, of the signed numbers that it hands in.
pub mod Answers
pub mod Plans
pub mod Sheets
pub mod Open
