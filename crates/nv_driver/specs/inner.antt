-- What contracts of private functions alone cite: who reads what the public ones say can pass it over.
pub mod Summing
pub mod Trails
pub mod Unmade
pub mod Refusals
pub mod Generated
pub mod Ran
