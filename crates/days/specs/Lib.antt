-- The least and last held day of a range, and the steps of the search for them.
pub mod Search
pub mod Steps
pub mod Open
