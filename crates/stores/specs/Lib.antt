pub mod Images
pub mod Flat
pub mod Log
pub mod Cuts
pub mod Replays
