pub mod Bodies
pub mod Called
pub mod Graph
pub mod Ranges
