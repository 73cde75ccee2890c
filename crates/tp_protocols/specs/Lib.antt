pub mod Fronts
pub mod Rescues
pub mod Turns
