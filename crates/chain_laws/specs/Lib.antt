pub mod Places
pub mod Rows
pub mod Locks
pub mod Answers
pub mod Kept
pub mod Checks
