-- What contracts of private functions alone cite: who reads what the public ones say can pass it over.
pub mod Bounds
pub mod Known
pub mod Lines
pub mod Small
pub mod Views
pub mod Programs
