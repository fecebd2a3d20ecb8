pub mod Done
pub mod Jobs
pub mod Sound
