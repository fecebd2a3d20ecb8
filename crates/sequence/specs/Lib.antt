pub mod Claim
pub mod Known
pub mod Run
