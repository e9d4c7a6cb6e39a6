pub mod Tables
pub mod ReadBack
pub mod Sound
pub mod Bounds
pub mod Headers
pub mod Faults
pub mod Writing
