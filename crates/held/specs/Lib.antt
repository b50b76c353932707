-- The local minutes that frames hold.
pub mod Minutes
pub mod Lists
pub mod Open
