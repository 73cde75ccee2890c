pub mod Futures
pub mod Groups
pub mod Lived
pub mod Ran
pub mod Settings
pub mod Ticking
