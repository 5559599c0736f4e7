pub mod QuotientLemmas
pub mod PressureLemmas
