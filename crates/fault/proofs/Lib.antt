-- Bottom up: what a file cites stands above it.
pub mod First
pub mod Located
pub mod Split
