-- Laws of texts put one after the other, and of numbers' texts.
pub mod Put
pub mod Printed
