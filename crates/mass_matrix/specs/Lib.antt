pub mod Checks
pub mod MassMatrix
pub mod Column
