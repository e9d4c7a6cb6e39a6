pub mod Laying
pub mod Steps
