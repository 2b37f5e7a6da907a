-- Bottom up: savings and payments (`Saving`); no number on the way to a cost is too large (`Sizes`); layers add up (`Added`); what is paid
-- of amounts (`Paid`), and amounts that go on (`Continued`); what an acceptance says (`Passed`); what is returned (`Returned`); what the
-- answers say (`Enclosed`).
pub mod Saving
pub mod Sizes
pub mod Added
pub mod Paid
pub mod Continued
pub mod Turns
pub mod Passed
pub mod Returned
pub mod Enclosed
