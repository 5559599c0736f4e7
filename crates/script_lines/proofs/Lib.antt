pub mod WordLemmas
pub mod ReadingLemmas
pub mod PhysicalLemmas
pub mod JoiningLemmas
pub mod ScriptLemmas
