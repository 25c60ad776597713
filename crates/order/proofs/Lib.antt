pub mod Places
pub mod Runs
pub mod Reordering
pub mod Mixing
pub mod Last
pub mod RegisterCalls
pub mod Fades
