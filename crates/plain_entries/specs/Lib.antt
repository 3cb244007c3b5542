pub mod Arm
pub mod Gather
pub mod Entries
pub mod Rests
