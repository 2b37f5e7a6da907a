-- How the calls for C hand over what the crates' own definitions say, and the library's version.
pub mod Handed
pub mod Version
