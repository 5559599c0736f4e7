pub mod DoesLemmas
pub mod Moments
pub mod Pool
