pub mod Chains
pub mod Laws
pub mod Model
pub mod View
