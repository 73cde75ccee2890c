pub mod Answered
pub mod Looked
pub mod Parts
pub mod Ticks
pub mod Told
pub mod Untold
