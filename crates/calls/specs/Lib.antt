pub mod Checks
pub mod Places
pub mod Plan
pub mod Position
pub mod Portions
