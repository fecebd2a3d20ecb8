pub mod Accepting
pub mod SlotLaws
pub mod StageLaws
