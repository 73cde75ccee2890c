pub mod Endings
pub mod Journals
