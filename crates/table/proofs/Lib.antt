pub mod Bodies
pub mod Keeping
pub mod Scripting
