pub mod Crowd
pub mod Inside
pub mod OpenGroups
pub mod PendingCalls
pub mod Steps
pub mod Tokens
