pub mod Admissions
pub mod Lives
pub mod Outcomes
pub mod Prestarts
pub mod Snapshots
pub mod Submissions
pub mod Timed
pub mod Turns
