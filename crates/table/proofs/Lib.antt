-- Words of a line.
pub mod Words
