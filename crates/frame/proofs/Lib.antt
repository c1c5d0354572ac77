pub mod Fits
pub mod Asked
pub mod Meaning
