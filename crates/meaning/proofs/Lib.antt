pub mod FaultLemmas
pub mod Mapped
pub mod StateLemmas
pub mod Worked
pub mod WorkedRuns
