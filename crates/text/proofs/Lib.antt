-- Laws of the definitions, for the proofs of this crate and of those that read and write texts. Bottom up: what a file cites stands above
-- it.
pub mod Scan
pub mod Read
pub mod Words
pub mod Appended
pub mod Decimal
pub mod LineText
pub mod Leading
