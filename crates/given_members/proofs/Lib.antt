pub mod AttributeLemmas
pub mod GivenLemmas
pub mod GivingLemmas
pub mod ScopeLemmas
pub mod VariableLemmas
