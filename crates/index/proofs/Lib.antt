pub mod Placed
pub mod Sorting
pub mod Parts
pub mod Additions
