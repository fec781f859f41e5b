pub mod Blocks
pub mod Orders
pub mod Barred
pub mod Performed
pub mod Laws
pub mod View
