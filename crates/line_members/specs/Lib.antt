pub mod Along
pub mod Sides
