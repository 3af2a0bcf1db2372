pub mod Apart
pub mod Rights
pub mod Table
