-- The frame of a sheet line that is taken passes the load check by itself; every compiled plan is taken, and means what its sheet's text means.
pub mod MaskGoods
pub mod CronGoods
pub mod Places
pub mod Frequencies
pub mod RuleGoods
pub mod FrameGoods
pub mod Read
pub mod Sources
pub mod Standing
pub mod Allowed
pub mod Plans
pub mod Held
pub mod Instants
pub mod Answers
pub mod Longest
pub mod Demand3
