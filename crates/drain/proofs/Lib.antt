pub mod Ahead
pub mod Stores
pub mod Opened
