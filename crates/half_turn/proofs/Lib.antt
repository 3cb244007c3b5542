pub mod Rounding
pub mod Shift
pub mod Lists
pub mod Tables
pub mod Bound
pub mod Kept
