pub mod FieldLemmas
pub mod Ladders
