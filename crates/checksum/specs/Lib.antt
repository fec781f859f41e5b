pub mod Checksum
pub mod Directions
