pub mod Counts
pub mod Ends
pub mod Inner
