-- Text put into a row of bytes.
pub mod Output
