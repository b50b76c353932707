-- The laws of what stands at a place.
pub mod Counting
pub mod Starting
pub mod Pieces
pub mod Tied
pub mod Listing
pub mod Forms
pub mod Ends
pub mod Sequence
pub mod Choices
pub mod Afters
pub mod Named
pub mod Folding
pub mod Values
pub mod Told
pub mod Chains
