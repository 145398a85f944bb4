pub mod Assignments
pub mod Bodies
pub mod Branches
pub mod Calls
pub mod Combining
pub mod Lowering
pub mod Parts
pub mod Sorts
