pub mod Seats
pub mod View
pub mod Agrees
pub mod IdleLine
pub mod Room
pub mod Laws
pub mod Lawful
pub mod Reserved
