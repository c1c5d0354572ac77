pub mod Rooms
pub mod Outcomes
