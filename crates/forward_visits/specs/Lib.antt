pub mod Inputs
pub mod Kernel
pub mod Places
