pub mod Orders
pub mod Columns
pub mod Turns
pub mod SameSpare
