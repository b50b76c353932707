-- The signed numbers of the C boundary as the naturals of the inside, and back.
pub mod Bias
pub mod Open
