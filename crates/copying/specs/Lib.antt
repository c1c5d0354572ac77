pub mod Fresh
pub mod Laid
