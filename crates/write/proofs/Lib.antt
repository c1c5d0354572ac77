pub mod Yielded
pub mod Opened
