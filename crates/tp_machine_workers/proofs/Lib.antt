pub mod Promised
pub mod Reserved
pub mod Falls
pub mod Waiting
pub mod GivenBack
