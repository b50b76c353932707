-- The lists of a rule, read at a place.
pub mod Gathered
pub mod Lists
pub mod Marks
