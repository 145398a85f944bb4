pub mod EntryLemmas
pub mod NameLemmas
pub mod OrderLemmas
pub mod PlaceLemmas
pub mod SortingLemmas
pub mod TableLemmas
pub mod TurnLemmas
pub mod WalkLemmas
