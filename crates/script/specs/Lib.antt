pub mod Words
pub mod Line
pub mod Written
pub mod Messages
