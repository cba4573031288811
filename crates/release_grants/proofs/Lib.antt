pub mod Addresses
pub mod Slashes
pub mod Lists
pub mod Numbers
pub mod Loops
pub mod FewRead
