-- The laws of cron fields.
pub mod Elements
pub mod Marking
pub mod Numbers
pub mod Spans
pub mod Answers
pub mod Whole
pub mod Crons
pub mod Steps
