mod Orders
mod Living
pub mod Shaped
pub mod Sending
