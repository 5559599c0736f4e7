pub mod AskingLemmas
pub mod FormulaLemmas
pub mod LevelLemmas
