-- The frame of a rule from its parts in numbers.
pub mod Ruled
