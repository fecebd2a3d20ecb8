pub mod Counts
pub mod Reading
pub mod RelocationHeaders
