pub mod Codec
mod Framing
