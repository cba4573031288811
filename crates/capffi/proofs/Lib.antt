pub mod Bare
pub mod Leads
pub mod Entries
pub mod Filled
pub mod Slashes
pub mod Masked
pub mod Masks
pub mod Telling
