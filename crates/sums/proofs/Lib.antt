pub mod Filters
pub mod Lists
pub mod Members
pub mod Pairs
pub mod Parts
pub mod Putting
pub mod Sorting
pub mod Totals
