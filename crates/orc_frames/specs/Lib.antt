pub mod Awaiting
pub mod Doing
pub mod Parameters
pub mod Paths
pub mod Spelling
pub mod Taking
