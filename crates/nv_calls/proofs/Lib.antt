pub mod LearningLaws
pub mod SameLaws
pub mod ShapeLaws
pub mod LogLaws
pub mod ProfileLaws
mod Keeping
mod Most
mod Walks
