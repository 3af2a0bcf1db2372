pub mod Told
pub mod Scans
pub mod Events
