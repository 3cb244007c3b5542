mod Works
pub mod Sound
