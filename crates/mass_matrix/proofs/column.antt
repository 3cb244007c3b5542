pub mod Part
