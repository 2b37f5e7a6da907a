-- Running sums fit 64 bits (`Sums`); what rows have that pass 31 and 33 (`Passed`).
pub mod Sums
pub mod Passed
pub mod FirstWrong
