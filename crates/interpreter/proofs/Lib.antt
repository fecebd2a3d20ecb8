pub mod Answering
pub mod Bytes
pub mod Fresh
pub mod Front
pub mod Lists
pub mod Readable
