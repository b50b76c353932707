-- What the test entries answer.
pub mod Probed
