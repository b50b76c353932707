-- The laws of the bias, for whoever stands above.
pub mod Laws
