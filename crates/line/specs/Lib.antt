pub mod Messages
pub mod Refusals
pub mod Faults
pub mod Framings
pub mod Calls
pub mod Framable
