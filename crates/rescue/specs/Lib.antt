pub mod Sources
pub mod Beside
