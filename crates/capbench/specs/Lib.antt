pub mod Status
pub mod Score
