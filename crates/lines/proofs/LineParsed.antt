-- One line, word by word: where every word after the keyword is a number, each is that number's decimal text.
use mathlib.Core.Path.{◌≡◌, refl, sym, ap, subst, ◌∙◌}
use mathlib.Core.Bool.{Bool, true, false, ◌&&◌, cond, false≢true}
use mathlib.Core.List.{List, [], ◌∷◌, ◌++◌, map, append_assoc}
use mathlib.Core.Option.{Option, none, some}
use Prim.Native.Nat.{ℕ, zero, suc, ◌≤◌, ◌<◌}
use native.Mathlib.Omega.{arith}
use borrow.Author.Tests.{eqb-true}
use lib.Dec.{eqb, eqb→eq, lit<}
use lib.IntN.{ℤ, pos, negsuc, nat_abs}
use lib.ListN.{length, get_or, drop, length-map}
use Rattle.algebra.specs.Table.{same_list}
use Rattle.algebra.proofs.Table.{same_list_lem}
use Rattle.text.specs.Bytes.{line_end}
use Rattle.text.specs.Lines.{before, after, has, words}
use Rattle.text.specs.Numbers.{decimal, number, AtMostTenDigits, sign_fits}
use Rattle.text.specs.LineText.{line_text}
use Rattle.text.proofs.Words.{split_at_first, words_joined}
use Rattle.text.proofs.Decimal.{number_is_decimal}
use Rattle.lines.specs.Line.{Line, numbers, faulty, both, all_numbers, of_numbers, of_words, line}
use Rattle.lines.specs.Line.{signed, natural, keyword_of, number_words}

-- ---- words
-- words that are numbers are their decimal texts
record AreNumbers (signs : Bool) (ws : List (List ℕ)) (zs : List ℤ) : Type 0 where
  written : ws ≡ map decimal zs
  small : (i : ℕ) → AtMostTenDigits (get_or zs i (pos 0))
  fit : (i : ℕ) → sign_fits signs (get_or zs i (pos 0)) ≡ true

abbrev ByWords : Bool → List (List ℕ) → Option (List ℤ) → Type 0
ByWords signs ws (some zs) = AreNumbers signs ws zs
ByWords signs ws none = Unit {0}

-- what holds of the first number and of each other one
each_next : (P : ℤ → Type 0) (z : ℤ) (zs : List ℤ) → P z → ((i : ℕ) → P (get_or zs i (pos 0))) → (i : ℕ) → P (get_or (z ∷ zs) i (pos 0))
each_next P z zs here others zero = here
each_next P z zs here others (suc j) = others j

by_words : (signs : Bool) (ws : List (List ℕ)) → ByWords signs ws (all_numbers signs ws)
unfolding all_numbers
by_words signs [] = record { written = refl; small = λ i. lit< tt; fit = λ i. refl }
by_words signs (w ∷ ws) = by (number signs w) refl (all_numbers signs ws) (by_words signs ws)
  where
    by : (z : Option ℤ) → number signs w ≡ z → (zs : Option (List ℤ)) → ByWords signs ws zs → ByWords signs (w ∷ ws) (both z zs)
    by none e zs f = tt
    by (some z) e none f = tt
    by (some z) e (some zs) f =
        let d = number_is_decimal signs w z e in
        record {
          written = λ i. d.0 i ∷ f.written i;
          small = each_next (λ y. AtMostTenDigits y) z zs d.1 f.small;
          fit = each_next (λ y. sign_fits signs y ≡ true) z zs d.2 f.fit;
        }

-- ---- the line
-- a line that gives numbers is their text, and the next line begins after its line end
pub record Parsed (signs : Bool) (keyword : List ℕ) (count : ℕ) (s : List ℕ) (zs : List ℤ) (rest : List ℕ) : Type 0 where
  pub text : s ≡ line_text keyword zs ++ rest
  pub next : after line_end s ≡ rest
  pub counted : length zs ≡ count
  pub small : (i : ℕ) → AtMostTenDigits (get_or zs i (pos 0))
  pub fit : (i : ℕ) → sign_fits signs (get_or zs i (pos 0)) ≡ true

-- one that is refused is so by 22, 23 or 24; by 24 where it has its keyword, and a word after it that is no number
pub record FaultyLine (signs : Bool) (keyword s : List ℕ) (reason : ℕ) : Type 0 where
  pub least : 22 ≤ reason
  pub most : reason ≤ 24
  pub begins : reason ≡ 24 → keyword_of (before line_end s) ≡ keyword
  pub word : reason ≡ 24 → all_numbers signs (number_words (before line_end s)) ≡ none

abbrev pub LineFacts : Bool → List ℕ → ℕ → List ℕ → Line → Type 0
LineFacts signs keyword count s (numbers zs rest) = Parsed signs keyword count s zs rest
LineFacts signs keyword count s (faulty reason) = FaultyLine signs keyword s reason

module _ (signs : Bool) (keyword : List ℕ) (count : ℕ) (s : List ℕ) where
  -- the words after the keyword
  of_words_lem : (ws : List (List ℕ)) → has line_end s ≡ true → words (before line_end s) ≡ keyword ∷ ws → length ws ≡ count
      → LineFacts signs keyword count s (of_numbers (all_numbers signs ws) (after line_end s))
  unfolding line_text
  of_words_lem ws ends stand counted = by (all_numbers signs ws) refl (by_words signs ws)
    where
      by : (zs : Option (List ℤ)) → all_numbers signs ws ≡ zs → ByWords signs ws zs
          → LineFacts signs keyword count s (of_numbers zs (after line_end s))
      by none e f = record {
        least = omega arith;
        most = omega arith;
        begins = λ _. ap (λ (vs : List (List ℕ)). get_or vs 0 []) stand;
        word = λ _. ap (λ (vs : List (List ℕ)). all_numbers signs (drop 1 vs)) stand ∙ e;
      }
      by (some zs) e f =
          let all : words (before line_end s) ≡ keyword ∷ map decimal zs = stand ∙ ap (λ (vs : List (List ℕ)). keyword ∷ vs) f.written in
          record {
            text = split_at_first line_end s ends
                ∙ ap (λ (l : List ℕ). l ++ (line_end ∷ after line_end s)) (words_joined (before line_end s) keyword (map decimal zs) all)
                ∙ simp append_assoc;
            next = refl;
            counted = sym (length-map zs decimal) ∙ ap length (sym f.written) ∙ counted;
            small = f.small;
            fit = f.fit;
          }

  by_form : (reason : ℕ) → 22 ≤ reason → reason < 24 → FaultyLine signs keyword s reason
  by_form reason least less = record {
    least = least;
    most = omega arith;
    begins = λ e. absurd (omega arith);
    word = λ e. absurd (omega arith);
  }

  pub line_facts : LineFacts signs keyword count s (line signs keyword count s)
  unfolding line
  line_facts = by (has line_end s) refl (words (before line_end s)) refl
    where
      form : (w : List ℕ) (ws : List (List ℕ)) → has line_end s ≡ true → words (before line_end s) ≡ w ∷ ws
          → (p : Bool) → same_list eqb w keyword ≡ p → (q : Bool) → eqb (length ws) count ≡ q
          → LineFacts signs keyword count s (cond (p && q) (of_numbers (all_numbers signs ws) (after line_end s)) (faulty 23))
      form w ws ends stand false t q u = by_form 23 (omega arith) (omega arith)
      form w ws ends stand true t false u = by_form 23 (omega arith) (omega arith)
      form w ws ends stand true t true u =
          let same : w ≡ keyword = same_list_lem ℕ eqb eqb→eq w keyword (rw t tt) in
          of_words_lem ws ends (rw same at stand) (eqb-true (length ws) count u)

      by : (q : Bool) → has line_end s ≡ q → (ws : List (List ℕ)) → words (before line_end s) ≡ ws
          → LineFacts signs keyword count s (cond q (of_words signs keyword count ws (after line_end s)) (faulty 22))
      by false t ws stand = by_form 22 (omega arith) (omega arith)
      by true t [] stand = by_form 23 (omega arith) (omega arith)
      by true t (w ∷ ws) stand = form w ws t stand (same_list eqb w keyword) refl (eqb (length ws) count) refl

  pub line_parsed : (zs : List ℤ) (rest : List ℕ) → line signs keyword count s ≡ numbers zs rest → Parsed signs keyword count s zs rest
  line_parsed zs rest e = subst (LineFacts signs keyword count s) e line_facts

-- ---- its numbers
-- a number without a sign is its size
pub is_size : (z : ℤ) → sign_fits false z ≡ true → z ≡ pos (nat_abs z)
is_size (pos n) e = refl
is_size (negsuc n) e = absurd (false≢true e)

single : (zs : List ℤ) → length zs ≡ 1 → zs ≡ signed zs 0 ∷ []
single [] e = absurd (omega arith)
single (x ∷ []) e = refl
single (x ∷ y ∷ zs) e = absurd (omega arith)

pub pair : (zs : List ℤ) → length zs ≡ 2 → zs ≡ signed zs 0 ∷ signed zs 1 ∷ []
pair [] e = absurd (omega arith)
pair (x ∷ []) e = absurd (omega arith)
pair (x ∷ y ∷ []) e = refl
pair (x ∷ y ∷ z ∷ zs) e = absurd (omega arith)

module _ {keyword s rest : List ℕ} {zs : List ℤ} where
  pub one_natural : Parsed false keyword 1 s zs rest → zs ≡ pos (natural zs 0) ∷ []
  one_natural p = single zs p.counted ∙ λ i. is_size (signed zs 0) (p.fit 0) i ∷ []

  pub two_natural : Parsed false keyword 2 s zs rest → zs ≡ pos (natural zs 0) ∷ pos (natural zs 1) ∷ []
  two_natural p = pair zs p.counted ∙ λ i. is_size (signed zs 0) (p.fit 0) i ∷ is_size (signed zs 1) (p.fit 1) i ∷ []
