-- Bottom up: what a file cites stands above it.
pub mod Lines
pub mod Printed
