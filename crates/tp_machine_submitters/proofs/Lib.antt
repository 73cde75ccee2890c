pub mod Offering
pub mod Payloads
pub mod Submitting
pub mod Retrying
pub mod Verdicts
