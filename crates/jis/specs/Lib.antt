pub mod Answers
pub mod Commands
pub mod Elements
pub mod Faults
pub mod Walk
