pub mod Identity
pub mod Protection
pub mod Example
pub mod Words
