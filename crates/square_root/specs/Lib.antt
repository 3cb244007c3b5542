pub mod SquareRoot
pub mod Guess
