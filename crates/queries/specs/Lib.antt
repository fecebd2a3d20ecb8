pub mod Get
pub mod TopId
