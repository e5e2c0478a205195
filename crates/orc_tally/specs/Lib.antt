pub mod Laws
pub mod Shell
pub mod Sight
pub mod Table
pub mod Told
