-- The sheet, from its text alone: the form of each line, what it means, and when it is refused.
pub mod Words
pub mod Form
pub mod Place
pub mod Range
pub mod Parts
pub mod Meaning
pub mod Refusals
pub mod Cases
pub mod Open
