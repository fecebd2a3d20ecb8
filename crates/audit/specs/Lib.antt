pub mod Answers
pub mod Preparing
