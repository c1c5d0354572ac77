pub mod Arrays
pub mod Framed
