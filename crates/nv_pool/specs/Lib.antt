pub mod Chunks
pub mod Pool
