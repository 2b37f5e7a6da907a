-- The curve call, in the paper's words (`Call`), and that it answers as before where no claim closes at nothing (`ZeroWeight`).
pub mod Lent
pub mod Call
pub mod ZeroWeight
