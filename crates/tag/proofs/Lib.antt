mod Placing
mod Listing
mod Replies
pub mod Kinded
mod Sessions
mod Tracing
mod Turning
pub mod Law
