pub mod Ends
pub mod Serial
pub mod Words
