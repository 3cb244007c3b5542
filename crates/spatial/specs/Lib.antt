pub mod Frame
pub mod Twist
pub mod Wrench
pub mod Operators
