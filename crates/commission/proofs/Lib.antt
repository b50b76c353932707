-- The laws of the commissioning program.
pub mod Digits
pub mod Answering
pub mod Reading
