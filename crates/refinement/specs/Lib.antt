pub mod Replies
pub mod Stands
