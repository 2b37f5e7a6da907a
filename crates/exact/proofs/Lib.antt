-- Bottom up: the recursion over any semiring, then the law and the amounts as rational numbers, then the statements; after them the same
-- with claims of size 0.
pub mod Convolution
pub mod Sundt
pub mod Frequency
pub mod Amount
pub mod Recursion
pub mod Thinned
pub mod Theorem9
pub mod Cut
pub mod Apart
pub mod Difference
pub mod Shrinking
pub mod Limit
pub mod Cases
