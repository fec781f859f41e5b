mod Cuts
pub mod Joins
mod Pieces
