pub mod Listed
pub mod Verdicts
pub mod Pins
pub mod Parted
pub mod Together
