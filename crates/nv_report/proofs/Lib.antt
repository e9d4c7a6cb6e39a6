pub mod Texts
mod Fractions
mod Objects
mod Spelling
