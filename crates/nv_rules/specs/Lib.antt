pub mod Pair
pub mod Values
pub mod Verdicts
pub mod inner
