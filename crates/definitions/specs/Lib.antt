pub mod MadeLines
pub mod Project
pub mod Tables
