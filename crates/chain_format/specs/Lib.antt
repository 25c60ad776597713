pub mod Groups
pub mod Entries
pub mod Format
