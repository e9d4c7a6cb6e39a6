pub mod Actions
pub mod Verified
pub mod Texts
pub mod Faults
