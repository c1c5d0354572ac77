pub mod Bench
pub mod Walk
