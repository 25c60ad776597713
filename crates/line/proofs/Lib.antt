pub mod Laying
pub mod Ends
pub mod Answering
pub mod Chunks
