pub mod GetLaws
pub mod TopIdLaws
