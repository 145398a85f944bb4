pub mod Sets
pub mod Reading
pub mod Nests
pub mod Answers
pub mod Escapes
pub mod NameWords
pub mod Parameters
pub mod MemberParts
