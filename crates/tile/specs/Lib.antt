pub mod Automata
pub mod Bands
pub mod Faults
pub mod Grids
pub mod Outcomes
