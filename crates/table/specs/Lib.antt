pub mod Rows
pub mod Draws
pub mod Tables
pub mod Refusals
pub mod Held
