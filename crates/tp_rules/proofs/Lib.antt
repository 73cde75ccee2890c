pub mod Tables
pub mod Histories
pub mod Sizes
pub mod Answered
pub mod Numbers
