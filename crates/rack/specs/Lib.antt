pub mod Nodes
pub mod Commands
pub mod Replies
pub mod Racks
