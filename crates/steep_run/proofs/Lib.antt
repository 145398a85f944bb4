pub mod ClassLemmas
pub mod Composed
pub mod DistinctLemmas
pub mod PathLemmas
pub mod ProjectLemmas
pub mod RubyLemmas
pub mod SignatureLemmas
