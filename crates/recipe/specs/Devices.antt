-- Devices of the proofs: the contracts of private functions cite these files, and no public contract does.
pub mod Machine
pub mod Reading
