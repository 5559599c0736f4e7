pub mod TermLemmas
pub mod WordLemmas
pub mod PushLemmas
pub mod AddLemmas
pub mod ListLemmas
pub mod LawLemmas
