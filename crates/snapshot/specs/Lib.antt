pub mod Rows
pub mod Value
pub mod Places
pub mod Publishing
pub mod Pairs
pub mod Tallies
