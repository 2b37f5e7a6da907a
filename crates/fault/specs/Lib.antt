-- The faulty word: the calls, and what is proved of their definition.
pub mod Call
pub mod First
