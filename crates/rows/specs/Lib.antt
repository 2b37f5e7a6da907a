-- The curve by the outward rule (`Curve`), which of its entries are exact (`Exact`), its faults (`Faults`), and that its sums fit (`Fits`),
-- in the paper's words, for a job within limits (`Limits`). `Layout` begins with the rows that hold entries; the rest of it, `Lent` and
-- `Progress` serve the contracts of the functions that fill the rows.
pub mod Curve
pub mod Exact
pub mod Faults
pub mod Limits
pub mod Fits
pub mod Layout
pub mod Lent
pub mod Progress
