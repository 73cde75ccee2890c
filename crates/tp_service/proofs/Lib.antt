pub mod Closed
pub mod Gathered
pub mod Given
