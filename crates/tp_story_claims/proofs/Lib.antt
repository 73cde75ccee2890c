pub mod Checked
pub mod Ended
pub mod Following
pub mod Spanning
pub mod Watching
