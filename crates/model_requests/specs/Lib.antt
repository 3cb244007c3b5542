pub mod Model
pub mod Lend
