pub mod Command
pub mod Decimal
pub mod Fields
pub mod Hex
