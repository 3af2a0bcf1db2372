pub mod Ended
pub mod Enrolled
pub mod Numbered
pub mod Sums
pub mod Tested
