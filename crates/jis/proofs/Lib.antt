pub mod Listing
pub mod Rules
