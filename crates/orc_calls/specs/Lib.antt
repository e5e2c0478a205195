pub mod Counting
pub mod Due
