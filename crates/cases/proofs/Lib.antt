-- The one claim over the table.
pub mod Cases
