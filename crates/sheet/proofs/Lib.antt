-- What the sheets of the bench list hold, where times lie, and where a bad line stands.
pub mod Cases
pub mod Times
pub mod BadLines
