pub mod Connected
pub mod Table
pub mod Calls
pub mod Tests
pub mod Changes
