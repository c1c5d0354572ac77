pub mod Recorder
pub mod Asking
