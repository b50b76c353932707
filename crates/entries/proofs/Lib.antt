-- The laws of the lists of a rule.
pub mod Places
pub mod Entries
pub mod Gathering
pub mod Leading
pub mod Setting
pub mod Marking
pub mod Listed
pub mod Months
