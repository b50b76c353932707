-- The laws of compiling.
pub mod Reasons
pub mod Stepping
pub mod Rounds
pub mod Written
pub mod Framing
pub mod Compiling
pub mod Refusing
