pub mod BinLemmas
pub mod ExtentLemmas
pub mod MeetLemmas
pub mod RoundLemmas
