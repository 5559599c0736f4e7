pub mod Bricks
pub mod Owned
