pub mod Alike
pub mod Likeness
pub mod Telling
pub mod Answering
