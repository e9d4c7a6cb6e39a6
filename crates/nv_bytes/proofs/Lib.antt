pub mod Cutting
pub mod Digits
pub mod Known
pub mod Laws
pub mod Pairs
pub mod FieldLaws
pub mod Parts
