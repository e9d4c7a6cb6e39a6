pub mod Headline
pub mod Calm
pub mod Program
pub mod Streams
pub mod inner
