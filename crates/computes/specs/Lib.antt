pub mod Quantities
