pub mod Moved
pub mod Grafts
