-- Entries and the outward rule, in the paper's words (`Entry`); the sums of one term, and what they ask for (`Term`); which entries are
-- exact (`Mark`), why that rule is right (`Ends`), and why it marks all that have equal ends (`EqualEnds`); for the crate's inner functions,
-- how a term is taken run by run, and a run's sums in natural numbers (`Run`), and what is known of marks (`Known`).
pub mod Entry
pub mod Term
pub mod Mark
pub mod Ends
pub mod EqualEnds
pub mod Run
pub mod Known
