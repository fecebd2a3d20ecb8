pub mod Limits
pub mod Name
pub mod Payload
pub mod Refusal
pub mod Verdict
