pub mod PlainState
pub mod Answers
