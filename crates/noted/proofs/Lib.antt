pub mod Entries
pub mod Counted
