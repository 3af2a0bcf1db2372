pub mod Blocks
pub mod Copies
pub mod Placed
pub mod Reached
pub mod HeardAs
pub mod Serving
