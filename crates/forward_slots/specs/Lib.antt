pub mod Layout
pub mod Loads
pub mod Term
pub mod Body
pub mod Whole
pub mod Reduced
pub mod Eliminate
