pub mod Split
pub mod Steps
pub mod Spaces
pub mod Back
pub mod Sound
