pub mod DecimalLemmas
pub mod GuessLemmas
pub mod PrintLemmas
pub mod RootLemmas
pub mod RoundTrip
pub mod RoundingLemmas
mod ValueLemmas
mod Worked
mod WorkedPrint
