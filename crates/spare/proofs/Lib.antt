pub mod Looked
pub mod Runs
