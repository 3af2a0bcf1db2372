pub mod Levels
pub mod Known
