pub mod Cut
pub mod Behind
pub mod Onward
pub mod Along
pub mod End
pub mod Whole
