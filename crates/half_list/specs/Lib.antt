pub mod Lists
pub mod Neighbours
pub mod Rows
