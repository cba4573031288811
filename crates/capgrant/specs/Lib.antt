pub mod Rule
pub mod Access
pub mod Class
pub mod Question
pub mod Failing
pub mod Verdict
pub mod Permitted
pub mod Masks
