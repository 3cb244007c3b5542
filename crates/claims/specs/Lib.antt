pub mod OneResult
pub mod Cases
pub mod Settled
pub mod Rotorless
pub mod Rotors
pub mod Engines
pub mod Standing
