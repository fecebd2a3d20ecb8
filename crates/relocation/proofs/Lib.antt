pub mod FieldLaws
pub mod RelocateLaws
