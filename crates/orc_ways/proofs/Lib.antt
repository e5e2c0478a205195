pub mod Conditions
pub mod Counting
pub mod Cutting
pub mod Loops
pub mod Texts
