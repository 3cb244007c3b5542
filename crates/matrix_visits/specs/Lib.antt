pub mod Kernel
pub mod Places
