-- The sheet reader's call.
pub mod Due
pub mod Call
