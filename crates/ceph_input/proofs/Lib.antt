pub mod KnownParts
pub mod KeyringLines
pub mod Listed
pub mod FsNames
pub mod ArrayText
pub mod ItemByItem
pub mod Unquoting
