pub mod Aside
pub mod Unmoved
pub mod Emptied
pub mod Filled
pub mod Copied
pub mod Sourced
