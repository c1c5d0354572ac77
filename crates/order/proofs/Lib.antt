pub mod Ranks
pub mod Rings
pub mod Differ
pub mod Next
