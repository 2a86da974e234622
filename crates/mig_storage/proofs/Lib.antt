pub mod Numbered
pub mod StateLemmas
pub mod SlotLemmas
pub mod FitsLemmas
pub mod OrderLemmas
pub mod IndexLemmas
pub mod EntryLemmas
pub mod AskedLemmas
