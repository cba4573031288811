mod Common
pub mod Again
pub mod Memory
pub mod InoSets
pub mod Dropped
pub mod Walked
pub mod KeptSets
pub mod Held
pub mod Renewed
pub mod Onward
pub mod Walking
pub mod Beside
pub mod GivenUp
pub mod Opened
