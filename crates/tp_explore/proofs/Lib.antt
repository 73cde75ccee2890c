pub mod Bare
pub mod Lists
pub mod Lowering
pub mod Starting
