pub mod Answered
pub mod Flawed
