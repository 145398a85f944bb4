pub mod Lists
pub mod Literals
pub mod Making
pub mod Names
pub mod Operators
pub mod Places
pub mod Statements
