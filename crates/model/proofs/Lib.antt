-- Laws of limits (`Tests`), of divisors (`Weights`) and of answers, for the crates that have calls.
pub mod Tests
pub mod Weights
pub mod Answer
