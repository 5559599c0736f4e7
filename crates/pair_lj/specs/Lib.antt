pub mod PairTerm
pub mod Pairs
pub mod Places
pub mod Table
