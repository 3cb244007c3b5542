pub mod Column
pub mod Write
