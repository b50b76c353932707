-- What the next and the previous instant are.
pub mod Instants
pub mod Nearest
pub mod Plans
pub mod Open
