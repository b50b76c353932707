-- The laws of a rule's frame and its parts.
pub mod Going
pub mod Lasts
pub mod Framing
pub mod Ruling
