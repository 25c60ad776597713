mod Reading
mod Kept
mod Shapes
mod Runs
mod Turns
pub mod Firsts
pub mod Feeds
