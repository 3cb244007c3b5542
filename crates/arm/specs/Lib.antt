pub mod Joint
pub mod Model
pub mod Topology
