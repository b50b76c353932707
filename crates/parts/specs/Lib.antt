-- The parts of a rule, read at a place.
pub mod Values
pub mod Given
