pub mod Unwritten
pub mod Audits
pub mod Grown
pub mod Explained
pub mod FileSystems
pub mod WhoAnswered
pub mod Logged
pub mod Matches
