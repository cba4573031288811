pub mod Rows
pub mod Conflicts
pub mod Targets
pub mod GatherCounts
