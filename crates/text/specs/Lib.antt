-- Bytes as text: lines, words, numbers.
pub mod Bytes
pub mod Lines
pub mod Numbers
pub mod Leading
pub mod LineText
