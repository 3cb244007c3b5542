pub mod Line
pub mod List
pub mod Read
pub mod Write
