pub mod Prefixes
pub mod Writes
