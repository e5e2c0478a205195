pub mod Inputs
pub mod Ranges
pub mod Wanted
