pub mod Contains
pub mod Inside
