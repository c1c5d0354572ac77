pub mod Without
pub mod InPlace
pub mod Found
pub mod Laws
