pub mod Members
pub mod Selected
pub mod Differ
pub mod Leaves
