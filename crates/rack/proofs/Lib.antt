pub mod Holding
pub mod Outcomes
pub mod Performing
pub mod Replaying
