-- The plan that a taken sheet compiles to, and how its lines are read.
pub mod Compiled
pub mod Reasons
pub mod Steps
pub mod Reading
pub mod Answers
pub mod Open
