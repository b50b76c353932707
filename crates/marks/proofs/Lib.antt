-- The marked cases hold of the written meanings.
pub mod Marked
pub mod Example
