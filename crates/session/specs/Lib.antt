pub mod Driven
pub mod Made
pub mod Making
pub mod Printed
pub mod Shown
