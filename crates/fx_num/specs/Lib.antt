pub mod Decimal
pub mod Numbers
pub mod Print
pub mod Roots
pub mod Rounding
