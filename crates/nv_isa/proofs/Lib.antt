pub mod Masks
pub mod Signs
pub mod Apart
pub mod Inverse
pub mod Fitting
