pub mod Ends
pub mod Followed
pub mod Refusals
pub mod Told
