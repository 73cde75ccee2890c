pub mod Futures
pub mod Submitted
