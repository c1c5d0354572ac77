pub mod Pages
pub mod Tagged
pub mod Spliced
