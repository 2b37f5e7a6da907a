-- Exact amounts that were worked out apart from these definitions (calculator/, from the laws' closed forms), as rows of one table.
use Rattle.std.specs.Prelude.{Bool, ℕ, ◌≤◌, ℤ, pos, negsuc, ◌*ℤ◌}
use mathlib.Core.List.{List, [], ◌∷◌, Memᴰ}
use Rattle.std.proofs.Common.{lit≤}
use Rattle.algebra.specs.Fraction.{Fraction, over, whole, ◌≈◌}
use Rattle.algebra.specs.Table.{same_integer}
use Rattle.model.specs.Job.{law_of}
use Rattle.exact.specs.Frequency.{Frequency}
use Rattle.exact.specs.Severity.{Severity}
use Rattle.exact.specs.Amount.{exact_amount}
use Rattle.exact.specs.Thinned.{thinned_law}
use Rattle.exact.specs.JobAmount.{frequency, severity}

pub record Case : Type 0 where
  pub law : Frequency
  pub table : Severity
  pub start : Fraction
  pub total : ℕ
  pub amount : Fraction

-- what a row claims
abbrev pub Holds : Case → Type 0
Holds c = exact_amount c.law c.table c.start c.total ≈ c.amount

-- ---- laws of order 1 and 2, by their divisor and terms
abbrev count_law : (k D : ℕ) → 1 ≤ D → List ℤ → List ℤ → Frequency
count_law k D h terms_a terms_b = frequency (law_of k D terms_a terms_b) h

-- mean 3/2
abbrev pub poisson : Frequency
poisson = count_law 1 2 (lit≤ tt) (pos 0 ∷ []) (pos 3 ∷ [])

-- 4 trials of chance 1/3
abbrev pub binomial : Frequency
binomial = count_law 1 2 (lit≤ tt) (negsuc 0 ∷ []) (pos 5 ∷ [])

-- shape 2, chance 1/3
abbrev pub negative_binomial : Frequency
negative_binomial = count_law 1 3 (lit≤ tt) (pos 1 ∷ []) (pos 1 ∷ [])

-- powers of -1/2: no distribution, and amounts below zero
abbrev pub alternating : Frequency
alternating = count_law 1 2 (lit≤ tt) (negsuc 0 ∷ []) (pos 0 ∷ [])

-- negative binomial of shape 2 and chance 1/2, together with 2 trials of chance 1/2 (Corollary 4 of document 002)
abbrev pub together : Frequency
together = count_law 2 2 (lit≤ tt) (negsuc 0 ∷ pos 1 ∷ []) (pos 7 ∷ negsuc 1 ∷ [])

-- claims that come in pairs, pairs with mean 1/2: the law of the paper's case P4
abbrev pub paired : Frequency
paired = count_law 2 1 (lit≤ tt) (pos 0 ∷ pos 0 ∷ []) (pos 0 ∷ pos 1 ∷ [])

-- ---- tables
abbrev pub single : Severity
single = severity (1 ∷ []) (lit≤ tt)

abbrev pub two : Severity
two = severity (1 ∷ 1 ∷ []) (lit≤ tt)

-- no claim has size 2
abbrev pub gap : Severity
gap = severity (2 ∷ 0 ∷ 1 ∷ []) (lit≤ tt)

abbrev pub four : Severity
four = severity (3 ∷ 1 ∷ 4 ∷ 1 ∷ []) (lit≤ tt)

-- ---- the table of cases; in the last three rows one claim in three is of size 0
abbrev row : Frequency → Severity → Fraction → ℕ → Fraction → Case
row law table start total amount = record { law = law; table = table; start = start; total = total; amount = amount }

abbrev pub cases : List Case
cases =
    row poisson two (whole (pos 1)) 0 (whole (pos 1))
    ∷ row poisson two (whole (pos 1)) 5 (over (pos 10881) 40960 (lit≤ tt))
    ∷ row poisson four (over (pos 2) 3 (lit≤ tt)) 4 (over (pos 619) 1728 (lit≤ tt))
    ∷ row binomial single (whole (pos 1)) 4 (over (pos 1) 16 (lit≤ tt))
    ∷ row binomial single (whole (pos 1)) 5 (whole (pos 0))
    ∷ row binomial gap (whole (pos 1000000000)) 3 (over (pos 22000000000) 27 (lit≤ tt))
    ∷ row negative_binomial two (whole (pos 1)) 4 (over (pos 185) 1296 (lit≤ tt))
    ∷ row negative_binomial four (whole (pos 1)) 5 (over (pos 1624) 19683 (lit≤ tt))
    ∷ row alternating single (whole (pos 1)) 1 (over (negsuc 0) 2 (lit≤ tt))
    ∷ row alternating two (whole (pos 1)) 5 (over (negsuc 32) 1024 (lit≤ tt))
    ∷ row together two (whole (pos 1)) 4 (over (pos 561) 256 (lit≤ tt))
    ∷ row together gap (over (pos 1) 2 (lit≤ tt)) 5 (over (pos 61) 81 (lit≤ tt))
    ∷ row paired single (whole (pos 400000001)) 2 (over (pos 400000001) 2 (lit≤ tt))
    ∷ row paired four (whole (pos 1)) 5 (over (pos 43) 486 (lit≤ tt))
    ∷ row (thinned_law poisson 1 two (lit≤ tt)) two (whole (pos 1)) 3 (over (pos 13) 48 (lit≤ tt))
    ∷ row (thinned_law binomial 1 two (lit≤ tt)) two (whole (pos 1)) 2 (over (pos 34) 49 (lit≤ tt))
    ∷ row (thinned_law negative_binomial 1 two (lit≤ tt)) two (whole (pos 1)) 2 (over (pos 19) 64 (lit≤ tt))
    ∷ []

-- the one claim
abbrev pub CasesHold : Type 0
CasesHold = (c : Case) → Memᴰ c cases → Holds c

-- ---- the test that the checker computes
abbrev pub same_fraction : Fraction → Fraction → Bool
same_fraction x y = same_integer (x.upper *ℤ pos y.lower) (y.upper *ℤ pos x.lower)

abbrev pub test : Case → Bool
test c = same_fraction (exact_amount c.law c.table c.start c.total) c.amount
