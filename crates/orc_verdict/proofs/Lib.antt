pub mod Conditions
pub mod Counting
pub mod Deepening
pub mod Entries
pub mod Fitting
pub mod Judging
pub mod Labels
pub mod Levels
pub mod Nesting
pub mod Parts
pub mod Reading
pub mod Sides
mod Taken
