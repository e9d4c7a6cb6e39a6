mod Sending
pub mod Starting
