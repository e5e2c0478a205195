pub mod Below
pub mod Course
pub mod Findings
pub mod Texts
