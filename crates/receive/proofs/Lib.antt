pub mod Tested
pub mod Places
pub mod Given
pub mod Walked
pub mod Accepted
