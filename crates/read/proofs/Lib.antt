pub mod Stays
pub mod Copies
pub mod Plans
pub mod Opened
