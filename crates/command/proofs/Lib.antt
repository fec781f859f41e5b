pub mod Blocks
mod Codec
pub mod Ranges
