pub mod CountLaws
pub mod ReadingLaws
pub mod RelocationHeaderLaws
