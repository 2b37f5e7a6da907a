-- Algebra: what the other crates cite. Definitions and statements are here, their proofs stand in proofs/.
pub mod Induction
pub mod Parts
pub mod Semiring
pub mod Ring
pub mod Order
pub mod Sum
pub mod Alternating
pub mod Fraction
pub mod Rational
pub mod Size
pub mod Line
pub mod Solver
pub mod Smallest
pub mod Slice
pub mod Tabled
pub mod Table
