pub mod Ends
pub mod Explored
pub mod Texts
