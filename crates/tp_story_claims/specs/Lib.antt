pub mod Checks
pub mod Claims
pub mod Differences
pub mod Endings
pub mod Fates
pub mod Listed
