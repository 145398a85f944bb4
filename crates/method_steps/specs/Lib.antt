pub mod Circles
pub mod Gathering
pub mod Slots
pub mod Steps
