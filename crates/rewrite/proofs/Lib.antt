pub mod First
pub mod Few
pub mod Long
pub mod Again
pub mod Output
pub mod Beyond
