-- The answers of the two calls (`Steps`); quantiles of exact amounts (`Enclosed`).
pub mod Steps
pub mod Enclosed
