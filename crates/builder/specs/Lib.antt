pub mod Axis
pub mod Checks
pub mod Build
