pub mod Written
pub mod Added
pub mod Struck
