pub mod Adding
pub mod Beginnings
pub mod Gathering
pub mod Openings
pub mod Publishing
pub mod Seeing
pub mod Tallying
pub mod Words
