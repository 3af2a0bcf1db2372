pub mod Status
pub mod Lines
