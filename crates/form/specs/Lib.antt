pub mod Numbers
pub mod Rows
pub mod Places
pub mod Form
pub mod Claims
