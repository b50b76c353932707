-- A text as lines.
pub mod Bytes
pub mod Lines
pub mod Open
