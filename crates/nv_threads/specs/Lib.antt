pub mod Behaviours
pub mod Threads
pub mod Tasks
pub mod Going
pub mod Ahead
pub mod inner
