-- The paper's cases that are marked for proof.
pub mod Cases
