-- Proofs that the functions of the crate share, bottom up: the checks, what the call returns, what an acceptance says, and what weight 0 at
-- severity 0 leaves as it was.
pub mod WrongTerm
pub mod Call
pub mod Returned
pub mod Accepted
pub mod ZeroWeight
