-- What a cron or rule frame holds, over local days.
pub mod Kinds
pub mod Cron
pub mod Rule
pub mod Numbers
pub mod Years
pub mod Months
pub mod Open
