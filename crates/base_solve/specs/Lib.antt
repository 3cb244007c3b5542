pub mod BaseSolve
