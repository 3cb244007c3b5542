pub mod Read
pub mod Lent
