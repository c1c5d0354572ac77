pub mod Places
pub mod Standing
pub mod Bytes
pub mod Reached
