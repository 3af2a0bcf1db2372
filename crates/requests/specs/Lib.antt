pub mod Fields
pub mod Ending
pub mod Levels
pub mod Passwords
pub mod Sizes
