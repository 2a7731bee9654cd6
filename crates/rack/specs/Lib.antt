pub mod Racks
pub mod Replays
