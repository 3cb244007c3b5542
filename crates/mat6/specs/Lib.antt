pub mod Mat6
