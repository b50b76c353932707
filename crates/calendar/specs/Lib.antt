-- Days, dates and weeks as document 01 says them. Inside, days count from 0001-01-01, which is day 0.
pub mod Below
pub mod Calendar
pub mod Iso
pub mod Window
pub mod Open
