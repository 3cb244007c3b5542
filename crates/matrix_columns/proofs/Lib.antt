pub mod Holds
pub mod Walks
pub mod Columns
