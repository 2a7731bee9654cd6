pub mod Evaluating
pub mod Alikes
pub mod Running
pub mod Calling
pub mod Singling
pub mod Wording
pub mod Printing
