pub mod Words
pub mod Scopes
pub mod Accesses
pub mod Caps
pub mod Opening
