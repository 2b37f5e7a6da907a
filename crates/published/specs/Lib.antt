-- Laws as two publications write them: what the two calls give (`Call`), the publications' own lines (`Line`), and what is promised of a
-- law that is made (`Satisfies`).
pub mod Call
pub mod Line
pub mod Satisfies
