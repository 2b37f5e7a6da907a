-- Proofs that the functions share: what a line that is read tells.
pub mod LineRead
