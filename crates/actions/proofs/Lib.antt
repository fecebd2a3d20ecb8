pub mod ActionLaws
pub mod TargetLaws
pub mod UnloadLaws
