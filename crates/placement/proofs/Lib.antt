pub mod PlacementLaws
pub mod Placing
