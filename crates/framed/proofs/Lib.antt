-- The laws of the frame of a sheet line: it means what the line means.
pub mod Counted
pub mod Listed
pub mod Ends
pub mod Ordinals
pub mod Crons
pub mod Goods
pub mod Sets
pub mod Days
pub mod Nths
pub mod Helds
pub mod Passing
pub mod Forms
pub mod Lines
