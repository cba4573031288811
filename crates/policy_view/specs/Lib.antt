pub mod Visible
pub mod Changes
pub mod Answers
pub mod Codes
