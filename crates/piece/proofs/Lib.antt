pub mod NewState
pub mod PartArcs
pub mod FourParts
