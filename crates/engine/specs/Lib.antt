pub mod Wrote
pub mod Seen
pub mod Shows
