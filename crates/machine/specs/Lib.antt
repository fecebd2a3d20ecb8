pub mod Host
pub mod Machine
pub mod X86
