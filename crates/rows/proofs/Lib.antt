-- Proofs that the functions of the crate share, bottom up: the rule and what it preserves; the rows and marks where they lie, the sums of a
-- total, the rule of the marks and what is known of them, totals one after the other.
pub mod Recursion
pub mod Preserved
pub mod Nonnegative
pub mod Kept
pub mod Stored
pub mod MarkStored
pub mod Sums
pub mod MarkRule
pub mod Known
pub mod Advanced
pub mod Filled
pub mod MarkProgress
pub mod RowByRow
pub mod TotalByTotal
