-- What a sheet is (`Sheet`), what reading one gives, line by line (`Reading`), and which sheets are taken (`Accepts`).
pub mod Sheet
pub mod Reading
pub mod Accepts
