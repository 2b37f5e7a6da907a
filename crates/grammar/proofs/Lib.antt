-- That exactly the texts of writable sheets are taken: those that are taken, and the texts.
pub mod Taken
pub mod Texts
