pub mod Holders
pub mod LineWords
pub mod Numerals
pub mod GroupNumbers
pub mod SaidLines
