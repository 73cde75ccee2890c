pub mod Answers
pub mod Asking
pub mod Saying
