pub mod BuildLaws
pub mod FaithfulLaws
pub mod OutcomeLaws
