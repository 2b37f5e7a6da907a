-- How the reader goes on: a line's numbers go on to what follows, and a refusal is the answer.
use Rattle.std.specs.Prelude.{◌≡◌, List, ℕ, ◌+◌, ℤ, Result, Ok, Err}
use Rattle.model.specs.declared.refusal.Refusal.{Refusal}
use Rattle.lines.specs.declared.Reason.{Reason}
use Rattle.lines.specs.Line.{Line, numbers, faulty}
use Rattle.lines.specs.Reason.{number_of}
use Rattle.grammar.specs.Reading.{Reading, refuses}

-- what the code has read of a line, and what is left after it
abbrev pub gives : {A : Type 0} → (A → List ℤ) → Result A (Refusal Reason) → List ℕ → Line
gives numbers_of (Ok value) rest = numbers (numbers_of value) rest
gives numbers_of (Err refusal) rest = faulty (number_of refusal.reason)

-- after line n the next one is due, or the line is refused
abbrev pub counted : {A : Type 0} → Result A (Refusal Reason) → ℕ → ℕ → Type 0
counted (Ok value) n due = due ≡ n + 1
counted (Err refusal) n due = refusal.place ≡ n

-- what the code has read, and what it goes on to
abbrev pub goes_on : {A : Type 0} → Result A (Refusal Reason) → (A → Reading) → Reading
goes_on (Ok value) next = next value
goes_on (Err refusal) next = refuses (number_of refusal.reason) refusal.place

-- a line's refusal has the line's number
abbrev pub placed : {A : Type 0} → ℕ → Result A Reason → Result A (Refusal Reason)
placed n (Ok value) = Ok value
placed n (Err reason) = Err (record { reason = reason; place = n })
