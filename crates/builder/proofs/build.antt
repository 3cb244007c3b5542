pub mod Masses
pub mod Passed
pub mod Rotors
pub mod Threes
