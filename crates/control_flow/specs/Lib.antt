pub mod Found
pub mod Flow
pub mod Labels
