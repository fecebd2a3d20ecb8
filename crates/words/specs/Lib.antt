pub mod Address
pub mod Find
pub mod Name
pub mod Number
pub mod Order
pub mod Scan
pub mod Splice
pub mod Text
