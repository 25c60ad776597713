pub mod Indexes
pub mod Served
pub mod Framed
pub mod Called
