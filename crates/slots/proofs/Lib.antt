pub mod Lengths
pub mod Blocks
pub mod Sets
pub mod Puts
pub mod Alike
pub mod Slices
