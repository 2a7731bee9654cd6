pub mod Counting
pub mod Appending
pub mod Pairing
pub mod Producing
