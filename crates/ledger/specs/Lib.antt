pub mod Halves
pub mod Marks
