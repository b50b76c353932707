-- What the commissioning program reads and writes.
pub mod Answer
pub mod Read
