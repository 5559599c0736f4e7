pub mod BondLemmas
pub mod LengthLemmas
pub mod PathLemmas
pub mod RowLemmas
pub mod AngleLemmas
mod EnergyLemmas
mod SignLemmas
mod TableLemmas
mod TurnLemmas
mod Worked
