-- The days of a month that a frame holds, and the turns that the interval of a rule makes.
pub mod Runs
pub mod Turns
pub mod Sets
