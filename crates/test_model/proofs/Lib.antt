pub mod Entries
pub mod Agree
pub mod Worked
pub mod Further
