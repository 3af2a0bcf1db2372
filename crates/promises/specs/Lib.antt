pub mod Runs
pub mod Locked
pub mod Record
pub mod Grants
pub mod Promises
pub mod Refused
pub mod Calls
pub mod Sent
