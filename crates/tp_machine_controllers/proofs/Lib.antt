pub mod Stopping
pub mod Cancels
pub mod Purges
pub mod Removals
pub mod Settings
