-- What the paper's calls have in common: its limits, a job and its table, answers and lists of conditions, marks.
pub mod Limits
pub mod Weights
pub mod Job
pub mod Answer
pub mod Mark
