-- The two level queries (`Call`), and what their totals say of exact amounts (`Enclosed`).
pub mod Call
pub mod Enclosed
