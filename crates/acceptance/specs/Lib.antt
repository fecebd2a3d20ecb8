pub mod Broken
pub mod Consulted
pub mod Keeps
pub mod Known
pub mod Rules
pub mod Stages
