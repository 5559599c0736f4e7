pub mod DataText
