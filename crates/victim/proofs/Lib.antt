pub mod Laws
pub mod SameSpare
