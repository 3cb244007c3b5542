pub mod Depths
pub mod Ups
pub mod Rests
