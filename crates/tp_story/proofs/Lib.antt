pub mod Slots
pub mod Staying
pub mod Cutting
pub mod Counting
