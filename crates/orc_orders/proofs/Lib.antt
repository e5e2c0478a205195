pub mod Adding
pub mod Counting
pub mod Known
pub mod Lent
pub mod Places
pub mod Raised
pub mod Telling
pub mod Texts
