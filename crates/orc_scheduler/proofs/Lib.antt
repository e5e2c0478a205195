pub mod Further
pub mod Reading
pub mod Stopping
pub mod Words
