pub mod Refusals
pub mod Held
pub mod CellsHeld
pub mod ChangeList
pub mod ChangesHeld
pub mod Meaning
