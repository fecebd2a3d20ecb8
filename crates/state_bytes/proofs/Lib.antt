mod Canonical
pub mod Fields
pub mod Laws
mod Loads
pub mod Readers
pub mod Rows
pub mod Same
mod SameRecords
