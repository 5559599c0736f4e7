pub mod Thermo
