pub mod Config
pub mod Memory
