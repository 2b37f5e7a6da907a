-- What holds of the definitions, for the users of the crate, and how the code reaches them by machine division.
pub mod Division
pub mod Enclosed
pub mod Truncation
