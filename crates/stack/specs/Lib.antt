pub mod Drawing
pub mod Waiting
pub mod Stacks
