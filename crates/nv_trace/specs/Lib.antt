pub mod Limits
pub mod Trace
pub mod Held
pub mod Faults
pub mod Texts
pub mod Checks
