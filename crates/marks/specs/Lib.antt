-- "Bench list": the marked cases of document 01, as one table.
pub mod Marks
pub mod Example
pub mod Open
