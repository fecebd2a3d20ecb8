mod Begun
mod Exported
mod Replies
