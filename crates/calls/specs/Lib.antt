pub mod Changes
pub mod Told
