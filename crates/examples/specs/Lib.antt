pub mod Drawings
pub mod Examples
