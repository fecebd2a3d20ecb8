pub mod Lines
pub mod Parts
pub mod Session
pub mod Standing
