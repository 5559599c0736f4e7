pub mod Images
pub mod Ghosts
pub mod Halos
pub mod Lengths
pub mod Walks
pub mod Lists
