pub mod Shapes
pub mod First
pub mod Search
pub mod Edges
pub mod Laws
