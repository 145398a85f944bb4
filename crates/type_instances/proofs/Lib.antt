pub mod WordLemmas
pub mod FreeNameLemmas
pub mod ApartLemmas
pub mod UnchangedLemmas
pub mod PairLemmas
pub mod OverloadLemmas
