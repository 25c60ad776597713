pub mod Digits
mod Spelling
mod Opening
