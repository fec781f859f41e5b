pub mod Answered
pub mod Elements
pub mod Opening
pub mod Taken
