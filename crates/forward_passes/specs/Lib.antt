pub mod First
pub mod Second
pub mod Root
pub mod Third
