pub mod Crowds
pub mod Known
pub mod Often
pub mod Placed
pub mod Saying
pub mod Worked
