-- Bottom up: what a file cites stands above it.
pub mod Parted
pub mod Weight
pub mod LineParsed
pub mod LinePrinted
pub mod GoodLine
