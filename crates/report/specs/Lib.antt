-- The program's text.
pub mod Report
pub mod Fits
