pub mod Flags
pub mod Trees
pub mod Climbs
pub mod Ups
pub mod Verdicts
pub mod Covers
pub mod Marked
