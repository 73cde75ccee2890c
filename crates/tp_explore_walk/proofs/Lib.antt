pub mod Counted
pub mod Firsts
pub mod Handed
pub mod Paths
pub mod Places
pub mod Walked
