pub mod EndLemmas
pub mod KnownLemmas
pub mod LineLemmas
pub mod PieceLemmas
pub mod ReferenceLemmas
pub mod TrailLemmas
pub mod WalkLemmas
