pub mod ReplyLaws
pub mod Sixes
pub mod Keeping
pub mod Files
pub mod Few
pub mod Going
pub mod CrewLaws
pub mod Crews
pub mod Randoms
pub mod Logging
pub mod Standings
mod Lasts
pub mod Wholes
