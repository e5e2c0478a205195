pub mod Chained
pub mod Flags
pub mod Lists
pub mod Notes
pub mod Weight
