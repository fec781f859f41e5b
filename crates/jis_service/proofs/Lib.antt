mod Payloads
mod Putting
pub mod Silence
pub mod Taken
pub mod Written
