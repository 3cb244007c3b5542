pub mod Cholesky
