pub mod Format
pub mod Layout
pub mod Wrong
pub mod Faults
pub mod Calls
pub mod Laws
pub mod Inner
