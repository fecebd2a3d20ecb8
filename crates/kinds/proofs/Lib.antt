pub mod KindLaws
pub mod Same
