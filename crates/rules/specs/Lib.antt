pub mod Epochs
pub mod Pages
pub mod Slots
