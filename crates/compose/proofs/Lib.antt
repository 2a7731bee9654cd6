pub mod Bounds
pub mod Zipped
pub mod Written
pub mod Adding
pub mod Moving
