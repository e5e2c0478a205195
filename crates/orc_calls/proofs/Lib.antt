pub mod BareCalls
pub mod Copies
pub mod Keys
pub mod Notes
pub mod Times
