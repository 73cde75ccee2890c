pub mod Telling
pub mod Marks
pub mod Ties
