pub mod FilterLaws
pub mod OpTexts
pub mod Digits
pub mod ReadBack
