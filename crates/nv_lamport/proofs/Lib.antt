pub mod Keeping
mod Missing
mod Reading
mod Looking
