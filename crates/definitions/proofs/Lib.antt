pub mod MadeLemmas
pub mod NameLemmas
pub mod ProjectLemmas
pub mod TableLemmas
pub mod ValueLemmas
