pub mod Lists
pub mod Arrays
