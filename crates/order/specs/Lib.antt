pub mod Calls
pub mod Runs
pub mod Reordering
pub mod Mixing
pub mod Last
pub mod Registers
pub mod Fades
