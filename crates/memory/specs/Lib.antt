pub mod Memory
pub mod Refusals
pub mod Ranges
