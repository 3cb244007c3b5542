pub mod OneResult
pub mod Divided
pub mod Settled
pub mod Cases
pub mod Rotorless
pub mod Rotors
pub mod Engines
pub mod Standing
