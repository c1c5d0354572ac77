pub mod Failed
pub mod Rest
pub mod Ranges
pub mod Opens
pub mod Backs
pub mod Passes
