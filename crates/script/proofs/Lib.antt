pub mod Commands
pub mod Digits
pub mod Examples
pub mod Line
pub mod ReadBack
