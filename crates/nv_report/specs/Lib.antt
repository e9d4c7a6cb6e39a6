pub mod Numbers
pub mod Events
pub mod Versions
pub mod Report
pub mod Json
