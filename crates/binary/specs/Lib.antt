pub mod Doubling
pub mod Frames
pub mod Laws
pub mod DoublingLemmas
