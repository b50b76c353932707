-- A sheet line with what stands before it: its frame, or its refusal.
pub mod Lined
