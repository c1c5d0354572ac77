pub mod Numbers
pub mod Tables
pub mod Inverse
pub mod Written
pub mod Found
pub mod Having
pub mod Places
