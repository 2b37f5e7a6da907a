-- What the two costs of a layer say of exact amounts that the rows enclose: what the layer pays on average lies from low to high.
use Rattle.std.specs.Prelude.{◌≡◌, List, [], ◌∷◌, ◌++◌, ℕ, ◌*◌, ◌≤◌, ◌<◌, ℤ, pos, neg_ℤ, nat_abs, ◌≤ℤ◌, length, get_or}
use Rattle.algebra.specs.Fraction.{Fraction, whole, ◌⊕◌, ◌⊗◌, ◌≈◌, ◌≼◌, Between}
use Rattle.algebra.specs.Slice.{listed}
use Rattle.algebra.specs.Sum.{accumulate}
use Rattle.model.specs.Answer.{accepted}
use Rattle.model.specs.Limits.{unit}
use Rattle.intervals.specs.Amounts.{entries, Enclose}
use Rattle.layer.specs.declared.LayerList.{LayerList}
use Rattle.layer.specs.Layer.{payment}
use Rattle.layer.specs.Call.{attachment, limit, layer_costs}

-- ---- finite lists of exact amounts, the amount of total x at place x
abbrev pub amount_at : List Fraction → ℕ → Fraction
amount_at g x = get_or g x (whole (pos 0))

-- f 0 + .. + f (n - 1)
abbrev pub sum_below : ℕ → (ℕ → Fraction) → Fraction
sum_below n f = accumulate (whole (pos 0)) ◌⊕◌ n f

-- the list "sums to U"
abbrev pub SumsToUnit : List Fraction → Type 0
SumsToUnit g = sum_below (length g) (amount_at g) ≈ whole (pos unit)

-- "the sum of payment times amount", over all totals of the list
abbrev pub paid : (c d : ℕ) → List Fraction → Fraction
paid c d g = sum_below (length g) (λ x. whole (pos (payment c d x)) ⊗ amount_at g x)

-- "one for each total from 0 to d - 1 or further, that sums to U"
pub record Complete (d : ℕ) (g : List Fraction) : Type 0 where
  pub enough : d ≤ length g
  pub sums_to : SumsToUnit g

-- "and lies in the rows' intervals at each total below d"
pub record Amounts (low high : List ℤ) (d : ℕ) (g : List Fraction) : Type 0 where
  pub complete : Complete d g
  pub above_low : (x : ℕ) → x < d → entries low x ≼ amount_at g x
  pub below_high : (x : ℕ) → x < d → amount_at g x ≼ entries high x

-- ---- an accepted call, and layer i of it
module _ (low high : List ℤ) (list : LayerList) (answer_low answer_high : List ℤ) where
  abbrev pub Accepted : Type 0
  Accepted = (layer_costs low high list answer_low answer_high).answer ≡ accepted

  -- its low and its high: what the answer rows hold at place i
  abbrev pub low_cost : ℕ → ℤ
  low_cost i = get_or (layer_costs low high list answer_low answer_high).low i (pos 0)

  abbrev pub high_cost : ℕ → ℤ
  high_cost i = get_or (layer_costs low high list answer_low answer_high).high i (pos 0)

  -- what it pays on average lies from the one to the other, the amounts being those of a list
  abbrev pub PaidBetween : ℕ → List Fraction → Type 0
  PaidBetween i g = Between (low_cost i) (high_cost i) (paid (attachment list i) (limit list i) g)

-- what is said of each layer of every accepted call on two rows
abbrev pub OfEveryLayer : (low high : List ℤ) → ((list : LayerList) (answer_low answer_high : List ℤ) (i : ℕ) → Type 0) → Type 0
OfEveryLayer low high Said = (list : LayerList) (answer_low answer_high : List ℤ) → Accepted low high list answer_low answer_high
    → (i : ℕ) → i < list.count → Said list answer_low answer_high i

-- ---- the statements
-- "for every finite list of exact amounts .. the sum of payment times amount lies between low and high"; from d on nothing is asked of it
abbrev pub EnclosesLayer : Type 0
EnclosesLayer = (low high : List ℤ) → OfEveryLayer low high (λ list answer_low answer_high i.
    (g : List Fraction) → Amounts low high (limit list i) g → PaidBetween low high list answer_low answer_high i g)

-- the low is at most the high, also where there is no such list
abbrev pub LayerInOrder : Type 0
LayerInOrder = (low high : List ℤ) → OfEveryLayer low high (λ list answer_low answer_high i.
    low_cost low high list answer_low answer_high i ≤ℤ high_cost low high list answer_low answer_high i)

-- neither is larger than 252,003,000,000,000 either way
abbrev pub LayerSmall : Type 0
LayerSmall = (low high : List ℤ) → OfEveryLayer low high (λ list answer_low answer_high i.
    (nat_abs (low_cost low high list answer_low answer_high i) ≤ 252003 * unit)
    × (nat_abs (high_cost low high list answer_low answer_high i) ≤ 252003 * unit))

-- ---- amounts that do not end
-- a finite list that has these amounts below d, goes on with any others, and sums to U
pub record Continues (amount : ℕ → Fraction) (d : ℕ) (g : List Fraction) : Type 0 where
  pub complete : Complete d g
  pub begins : (x : ℕ) → x < d → amount_at g x ≈ amount x

-- what the amounts below d leave of U
abbrev pub rest : (d : ℕ) → (ℕ → Fraction) → Fraction
rest d amount = whole (pos unit) ⊕ whole (neg_ℤ (pos 1)) ⊗ sum_below d amount

-- one amount for all totals from d on, since a layer pays the same at each of them
abbrev pub with_rest : (d : ℕ) → (ℕ → Fraction) → List Fraction
with_rest d amount = listed amount d ++ (rest d amount ∷ [])

-- so there always is such a list
abbrev pub AlwaysContinues : Type 0
AlwaysContinues = (amount : ℕ → Fraction) (d : ℕ) → Continues amount d (with_rest d amount)

-- and of amounts that the rows enclose, what a layer pays on average lies from low to high, however they go on
abbrev pub EnclosesPaid : (low high : List ℤ) → (ℕ → Fraction) → Type 0
EnclosesPaid low high amount = OfEveryLayer low high (λ list answer_low answer_high i.
    (g : List Fraction) → Continues amount (limit list i) g → PaidBetween low high list answer_low answer_high i g)

abbrev pub EnclosesContinued : Type 0
EnclosesContinued = (low high : List ℤ) (amount : ℕ → Fraction) → Enclose low high amount → EnclosesPaid low high amount
