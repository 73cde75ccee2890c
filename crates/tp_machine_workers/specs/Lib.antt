pub mod Begun
pub mod Freed
