-- Division rounded down and rounded up: the definitions that the contracts cite, and what is claimed of them.
pub mod Division
