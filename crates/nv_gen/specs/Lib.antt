pub mod Made
pub mod Programs
pub mod Measures
pub mod Behaviour
pub mod Versions
pub mod Texts
