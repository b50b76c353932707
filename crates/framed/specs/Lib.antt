-- The frame of a sheet line.
pub mod Framed
pub mod Open
