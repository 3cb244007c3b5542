pub mod Plan
pub mod Composite
