pub mod Place
pub mod SameSpare
pub mod First
pub mod Copies
