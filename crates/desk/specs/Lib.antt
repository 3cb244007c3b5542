pub mod Block
pub mod Turns
