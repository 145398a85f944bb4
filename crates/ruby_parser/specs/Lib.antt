pub mod Programs
pub mod Refused
