pub mod Lines
pub mod Names
pub mod Numbers
pub mod Parts
pub mod Fields
pub mod LittleEndian
