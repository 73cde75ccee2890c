pub mod Naming
pub mod Stories
pub mod Since
pub mod Fronts
pub mod Counted
pub mod Sorts
