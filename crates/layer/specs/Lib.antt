-- One layer (`Layer`); the call for a list of layers (`Call`); what its answers say of exact amounts (`Enclosed`). `Room` serves the
-- contracts of the crate's own functions.
pub mod Layer
pub mod Call
pub mod Enclosed
pub mod Room
