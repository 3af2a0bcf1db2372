mod Sums
pub mod Heads
pub mod Writes
pub mod Standing
pub mod Trips
