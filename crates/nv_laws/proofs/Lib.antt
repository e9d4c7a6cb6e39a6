pub mod Lookups
pub mod Holding
pub mod Sound
pub mod Made
pub mod Closing
pub mod Within
pub mod Refusing
pub mod States
pub mod Constants
pub mod LaterCalls
pub mod Console
pub mod Connections
mod InTurn
pub mod Lists
pub mod Stuck
pub mod Falling
mod Played
mod Lasting
mod Waiting
mod LeadWaiting
mod Windows
mod Kept
mod Sums
mod Ending
mod Rooms
mod Comings
