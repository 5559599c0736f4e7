pub mod PairLemmas
pub mod SiteLemmas
pub mod RiseLemmas
