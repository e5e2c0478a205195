pub mod Happenings
pub mod Claims
pub mod Known
pub mod Meets
pub mod Verdicts
