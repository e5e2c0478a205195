pub mod Others
pub mod Stood
