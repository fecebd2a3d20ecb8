mod Back
mod Replaced
mod Stored
