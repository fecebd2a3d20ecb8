pub mod Fields
pub mod Flags
pub mod Layout
pub mod Stored
