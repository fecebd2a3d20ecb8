pub mod Checks
pub mod Edits
pub mod Numbers
