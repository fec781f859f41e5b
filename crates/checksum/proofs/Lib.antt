pub mod Bits
pub mod Linear
pub mod Residue
