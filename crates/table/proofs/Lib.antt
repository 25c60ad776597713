mod Texts
mod Defaults
mod Places
mod Sums
mod Adding
mod Limits
pub mod Facts
