-- Cron fields, read at a place.
pub mod Elements
pub mod Marked
pub mod Fields
pub mod Crons
