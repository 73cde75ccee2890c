pub mod Owed
pub mod Verdicts
