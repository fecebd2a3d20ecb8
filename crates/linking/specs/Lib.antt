pub mod Kept
pub mod Linking
pub mod Symbols
