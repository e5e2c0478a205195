mod Appended
pub mod Counting
pub mod Noting
pub mod Steps
pub mod Trimming
pub mod Truth
