pub mod Rows
pub mod Shifts
pub mod Sizes
pub mod Written
