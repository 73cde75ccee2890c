pub mod Fronts
pub mod Reports
pub mod Written
