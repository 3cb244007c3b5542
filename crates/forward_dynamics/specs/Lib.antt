pub mod Checks
pub mod ForwardDynamics
