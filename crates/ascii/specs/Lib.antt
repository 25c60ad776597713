pub mod Hex
pub mod Frames
pub mod Laws
pub mod Digits
