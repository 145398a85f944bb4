pub mod Calls
pub mod Causes
pub mod Listing
pub mod MemSink
pub mod MemTree
pub mod Tree
