pub mod Listed
pub mod Roots
pub mod Stored
pub mod Equal
pub mod Verdicts
pub mod Called
