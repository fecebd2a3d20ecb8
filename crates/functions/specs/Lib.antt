pub mod Edits
pub mod Functions
pub mod Pairs
pub mod Patching
pub mod Records
