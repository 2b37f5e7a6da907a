-- Proofs that the functions share, bottom up: entries and their opposites, their division, lines, sizes, raised sums, runs, marks; then the
-- ends of exact entries, and the marks of equal ends.
pub mod Scaled
pub mod Rounded
pub mod Line
pub mod Sizes
pub mod Lowered
pub mod RunByRun
pub mod Exact
pub mod Ends
pub mod EqualEnds
