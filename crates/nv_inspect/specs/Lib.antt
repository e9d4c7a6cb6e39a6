pub mod Points
pub mod Firsts
pub mod Shown
