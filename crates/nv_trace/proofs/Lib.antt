pub mod Numbers
pub mod Back
pub mod Whole
pub mod Recording
pub mod Sound
pub mod Playing
