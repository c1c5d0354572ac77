pub mod Epochs
pub mod Swept
pub mod Queues
pub mod Stages
