pub mod Nodes
pub mod Places
pub mod Heads
pub mod Lists
pub mod Codes
pub mod Walks
pub mod Calls
