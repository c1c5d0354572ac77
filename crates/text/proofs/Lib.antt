pub mod Digits
pub mod Shown
