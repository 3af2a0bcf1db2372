pub mod Ids
pub mod Oldest
pub mod Laws
pub mod Sought
