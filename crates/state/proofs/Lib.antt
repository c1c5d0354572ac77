pub mod View
pub mod Bounds
pub mod Below
pub mod Queued
