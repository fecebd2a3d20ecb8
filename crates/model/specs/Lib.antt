pub mod Calls
pub mod Memory
pub mod Model
pub mod Step
