pub mod Plans
pub mod Drawings
pub mod Wires
