pub mod Setups
pub mod Items
pub mod Numbers
