-- Demand 3 from the sheet's bytes to the text's bytes.
pub mod Printed
