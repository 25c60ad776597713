pub mod Words
pub mod Hearing
pub mod Frames
pub mod Written
