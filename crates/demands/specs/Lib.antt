-- What the demands name beyond the definitions of the crates below.
pub mod Meant
