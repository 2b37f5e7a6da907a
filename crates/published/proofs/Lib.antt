-- Bottom up: what an acceptance says (`Accepted`), the line of order 1 over the rational numbers (`Steps`), turned signs (`Turn`), each
-- form's sides as those of such a line (`Sides`), and the statements (`Satisfies`).
pub mod Accepted
pub mod Steps
pub mod Turn
pub mod Sides
pub mod Satisfies
