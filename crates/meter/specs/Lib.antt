pub mod Run
pub mod Lent
