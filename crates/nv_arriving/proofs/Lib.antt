pub mod Coming
pub mod Taken
pub mod LaterLaws
mod Looking
pub mod Sides
pub mod Rooms
pub mod Inboxes
pub mod Promises
pub mod Steps
pub mod Staged
pub mod Kept
pub mod Telling
pub mod Doings
pub mod Told
pub mod Listing
pub mod Standings
pub mod Sending
pub mod Saying
