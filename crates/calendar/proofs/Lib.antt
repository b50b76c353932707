-- The laws of the calendar, for its own proofs and for whoever stands above.
pub mod Every
pub mod Years
pub mod Groups
pub mod Months
pub mod Dates
pub mod Isos
pub mod Windows
pub mod Weekdays
pub mod Leasts
