pub mod Window
pub mod Runs
