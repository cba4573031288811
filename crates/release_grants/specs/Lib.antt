pub mod Flags
pub mod Networks
pub mod Paths
pub mod Texts
pub mod Items
pub mod Reading
pub mod Written
