pub mod Ready
pub mod Sound
pub mod Runs
