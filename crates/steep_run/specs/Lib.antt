pub mod Calls
pub mod Project
pub mod Reading
pub mod Report
pub mod Ruby
pub mod Signature
pub mod Small
pub mod Words
