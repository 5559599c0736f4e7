pub mod Exit
pub mod Request
