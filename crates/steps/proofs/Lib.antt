pub mod EndLaws
pub mod StepLaws
