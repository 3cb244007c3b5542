pub mod Kept
pub mod Places
