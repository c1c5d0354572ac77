pub mod Inside
pub mod Kept
pub mod Turns
