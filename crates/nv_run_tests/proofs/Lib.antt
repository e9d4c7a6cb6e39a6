pub mod Fresh
mod Learned
mod Sounds
pub mod Texts
pub mod Rests
pub mod KeptStanding
pub mod Sending
