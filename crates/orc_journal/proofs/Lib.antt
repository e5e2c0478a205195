pub mod Grafted
pub mod Keeping
pub mod Shifted
pub mod Shown
