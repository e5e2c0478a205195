pub mod Lines
pub mod Found
pub mod Survey
pub mod TrialFaults
pub mod Trials
pub mod Tried
pub mod Trying
