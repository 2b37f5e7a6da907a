-- The start from the law's own name: the one step (`Step`), what the two calls give (`Call`), exact partial sums of the exponential series
-- (`Exponential`), and what is promised (`Holds`). `Room` serves inner functions alone.
pub mod Step
pub mod Call
pub mod Exponential
pub mod Holds
pub mod Room
