-- The laws of what C is answered of a plan.
pub mod Orders
pub mod Nearests
pub mod Edges
