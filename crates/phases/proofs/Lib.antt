pub mod Lent
pub mod Templates
pub mod Waits
