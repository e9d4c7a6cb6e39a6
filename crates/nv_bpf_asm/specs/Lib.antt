pub mod Statements
pub mod Assembled
pub mod Faults
pub mod inner
