-- Bottom up. Over ℤ: one step (`Step`), every number fits (`Sizes`), the terms of the series (`Terms`) and their sums (`Summed`), what an
-- acceptance says (`Accepted`), and that the curve takes the start (`IsStart`). Over ℚ: what a step holds (`Held`), the power
-- (`PowerHeld`), the exponential series (`Exponential`) and its products (`SeriesHeld`).
pub mod Step
pub mod Sizes
pub mod Terms
pub mod Summed
pub mod Accepted
pub mod IsStart
pub mod Held
pub mod PowerHeld
pub mod Exponential
pub mod SeriesHeld
