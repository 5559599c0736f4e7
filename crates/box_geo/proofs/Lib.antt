pub mod FaultLemmas
pub mod IdLemmas
pub mod NearLemmas
mod Worked
pub mod WrapLemmas
mod StepLemmas
