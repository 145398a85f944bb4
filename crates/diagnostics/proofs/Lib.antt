pub mod CodeLemmas
pub mod OrderLemmas
pub mod RisingLemmas
