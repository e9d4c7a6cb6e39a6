-- What contracts of private functions alone cite: who reads what the public ones say can pass it over.
pub mod Dealing
pub mod Leads
pub mod Rounds
pub mod Stepping
pub mod Spares
