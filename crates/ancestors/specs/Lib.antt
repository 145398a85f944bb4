pub mod Known
pub mod Pieces
pub mod References
pub mod Walks
