pub mod Laws
pub mod Replied
pub mod Sent
