pub mod Change
pub mod Find
pub mod State
pub mod Steps
