pub mod Naming
pub mod Gathering
