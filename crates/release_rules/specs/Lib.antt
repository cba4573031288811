pub mod Releases
pub mod Asked
pub mod Rules
pub mod Question
pub mod Failing
pub mod Verdicts
pub mod Clients
pub mod Beside
