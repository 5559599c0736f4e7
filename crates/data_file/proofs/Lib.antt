pub mod BothLemmas
pub mod HeaderLemmas
pub mod KeptLemmas
pub mod OutcomeLemmas
pub mod ReadLemmas
pub mod RowLemmas
pub mod TableLemmas
pub mod WordLemmas
pub mod StateLemmas
pub mod SoundLemmas
mod Worked
