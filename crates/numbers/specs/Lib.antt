pub mod Double
pub mod Sum
pub mod Table
pub mod Vec3
pub mod Quaternion
pub mod Mat3
