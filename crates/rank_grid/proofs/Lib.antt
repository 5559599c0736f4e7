pub mod SideLemmas
pub mod RankLemmas
pub mod OwnedLemmas
