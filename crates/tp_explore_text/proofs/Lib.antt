pub mod Placed
pub mod Told
