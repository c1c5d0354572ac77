pub mod Asked
pub mod Unseen
