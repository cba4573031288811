pub mod Sound
pub mod Elsewhere
