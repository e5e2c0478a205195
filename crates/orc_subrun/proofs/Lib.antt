pub mod Calls
pub mod Cancels
pub mod Grafted
pub mod Holes
pub mod Listed
pub mod Marks
pub mod Shapes
