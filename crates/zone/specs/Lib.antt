-- Wall clock and instants. Inside, instants and offsets are moved up by a day, 1,440 minutes, so instant + offset is local minute + 2,880.
pub mod Zone
pub mod Held
pub mod Stretches
pub mod Open
