pub mod Hands
pub mod Lists
pub mod Words
pub mod Steps
pub mod Whole
pub mod Ends
pub mod Machine
