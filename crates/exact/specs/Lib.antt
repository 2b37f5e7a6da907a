-- The exact amounts of the paper, and what is claimed of them, on the fractions of algebra/specs/Fraction. To be read in this order.
pub mod Frequency
pub mod Severity
pub mod Amount
pub mod Recursion
pub mod Thinned
pub mod JobAmount
pub mod Zeros
pub mod Cases
