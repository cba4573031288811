pub mod EndNumbers
pub mod Noting
pub mod Taking
pub mod Twice
mod Common
pub mod Rejecting
pub mod Numbered
