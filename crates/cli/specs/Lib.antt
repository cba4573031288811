pub mod Commands
pub mod Hints
pub mod Jobs
pub mod ServeFaults
pub mod Served
