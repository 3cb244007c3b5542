pub mod Rule
pub mod Pass
