pub mod Given
pub mod Learning
pub mod Keeping
pub mod Refusing
pub mod Transcript
pub mod Endings
pub mod inner
