pub mod Stages
pub mod Filled
pub mod Kept
pub mod Places
pub mod Rotors
