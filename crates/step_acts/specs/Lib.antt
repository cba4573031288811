pub mod Served
pub mod Finishing
pub mod Known
pub mod AffectedInodes
pub mod Left
pub mod Renewing
