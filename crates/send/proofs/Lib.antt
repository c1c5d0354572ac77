pub mod Lengths
pub mod Lines
pub mod Passed
pub mod Handed
