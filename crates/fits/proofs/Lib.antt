pub mod Blank
pub mod Parts
pub mod Places
pub mod SameSpare
