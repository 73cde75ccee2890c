pub mod Moves
pub mod Same
pub mod Situation
