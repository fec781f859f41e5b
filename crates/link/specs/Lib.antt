pub mod Carried
pub mod Exchanges
pub mod Bench
