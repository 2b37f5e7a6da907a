-- Bottom up: what a file cites stands above it.
pub mod Enclosure
pub mod Gap
pub mod Bounds
pub mod Accuracy
pub mod Rows
pub mod Query
pub mod Layer
pub mod GivenStart
pub mod GivenLaw
pub mod Zeros
pub mod EqualEnds
pub mod Exactness
