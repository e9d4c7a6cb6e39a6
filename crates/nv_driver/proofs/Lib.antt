pub mod Apps
mod Matches
mod Lines
pub mod Within
pub mod Lengths
pub mod Loading
pub mod LiveLoading
pub mod Decided
pub mod Followed
pub mod Trailing
pub mod Loaded
pub mod Statuses
pub mod Making
pub mod Planned
pub mod Commands
