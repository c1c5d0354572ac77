pub mod Texts
pub mod Bounds
pub mod Held
pub mod Lines
pub mod Requests
pub mod Ways
pub mod Kept
pub mod Asking
