pub mod Refusals
pub mod Meanings
pub mod Calls
pub mod Faith
pub mod Uses
pub mod Statements
