-- What is proved of the program's text.
pub mod Fits
pub mod Outcome
