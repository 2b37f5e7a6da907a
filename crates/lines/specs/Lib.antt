-- One line of a sheet: what it gives, or why it is refused.
pub mod Reason
pub mod Keywords
pub mod Line
pub mod Parts
