pub mod SameChip
pub mod Logs
pub mod Found
pub mod Woven
