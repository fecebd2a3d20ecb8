pub mod Digits
pub mod Entries
pub mod Examples
pub mod Lengths
pub mod Written
