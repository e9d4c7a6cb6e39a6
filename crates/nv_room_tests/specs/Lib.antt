pub mod Going
pub mod Backs
pub mod Scripts
