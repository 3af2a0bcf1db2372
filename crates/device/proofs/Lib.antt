pub mod Without
pub mod AnyHeld
pub mod Remembering
