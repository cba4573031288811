pub mod Opened
pub mod Gathered
