-- The lines of a table, one by one. The lines of the first totals are that many lines, so what follows the heading and the lines before
-- total x begins with the line of total x.
use mathlib.Core.Path.{◌≡◌, refl, sym, ap, ◌∙◌, subst}
use mathlib.Core.Bool.{Bool, true, false, cond, not}
use mathlib.Core.Logic.{◌⊎◌, inl, inr}
use mathlib.Core.List.{List, [], ◌∷◌, ◌++◌, map, append_assoc, append-nil, append_cancel_left}
use mathlib.Core.List.{head-eq_of_cons-eq, tail-eq_of_cons-eq}
use Prim.Native.Nat.{ℕ, zero, suc, ◌+◌, ◌<◌}
use native.Mathlib.Nat as NL
use native.Mathlib.Numerals.{add-one}
use native.Mathlib.Omega.{arith}
use lib.IntN.{ℤ, pos}
use lib.ListN.{get_or}
use Rattle.algebra.specs.Table.{every}
use Rattle.algebra.proofs.Table.{every_append}
use Rattle.model.specs.Mark.{is_exact}
use Rattle.text.specs.Bytes.{ascii, line_end, space}
use Rattle.text.specs.Lines.{before, after, has, after_lines, line_at, IsLines, words, spaced}
use Rattle.text.specs.Numbers.{decimal}
use Rattle.text.specs.LineText.{line_text}
use Rattle.text.proofs.Appended.{lines_append, lines_followed}
use Rattle.text.proofs.Decimal.{decimal_plain, decimal_injective}
use Rattle.text.proofs.LineText.{no_line_end, no_space, line_text_is_line, line_text_first}
use Rattle.text.proofs.Words.{has_append, words_of_joined}
use Rattle.table.specs.Lines.{yes, no, exact_letter, total_words, total_lines, table_text}
use Rattle.printed.specs.Printed.{WordsTell}

total_plain : (x : ℕ) → has line_end (decimal (pos x)) ≡ false
total_plain x = decimal_plain line_end (omega arith) (pos x)

abbrev heading : List ℕ
heading = ascii "TOTAL LOW HIGH BOUND EXACT\n"

heading_line : IsLines 1 heading
unfolding IsLines has after
heading_line = (refl, refl)

-- the text of a line before its end has no line end itself
letter_plain : (t : Bool) → has line_end (space ∷ cond t yes no ∷ []) ≡ false
unfolding has
letter_plain true = refl
letter_plain false = refl

words_plain : (x : ℕ) (l h b m : ℤ) → has line_end (total_words x l h b m) ≡ false
words_plain x l h b m =
    let numbers = spaced (map decimal (l ∷ h ∷ b ∷ [])) in
    let letter = space ∷ exact_letter m ∷ [] in
    has_append line_end (decimal (pos x)) (numbers ++ letter)
    ∙ rw (total_plain x, has_append line_end numbers letter, no_line_end (l ∷ h ∷ b ∷ [])) (letter_plain (is_exact m))

-- with its end it is a line, without numbers behind
line_is : (word : List ℕ) → line_text word [] ≡ word ++ (line_end ∷ [])
unfolding line_text spaced
line_is word = refl

no_fields : (word : List ℕ) → word ++ spaced (map decimal []) ≡ word
unfolding spaced
no_fields word = append-nil word

-- the words of a line tell its numbers
spaced_append : (ws vs : List (List ℕ)) → spaced (ws ++ vs) ≡ spaced ws ++ spaced vs
unfolding spaced
spaced_append [] vs = refl
spaced_append (w ∷ ws) vs =
    ap (λ (t : List ℕ). space ∷ (w ++ t)) (spaced_append ws vs)
    ∙ ap (λ (t : List ℕ). space ∷ t) (sym (append_assoc w (spaced ws) (spaced vs)))

abbrev fields : List ℤ → ℤ → List (List ℕ)
fields zs m = map decimal zs ++ ((exact_letter m ∷ []) ∷ [])

letter_word : (t : Bool) → every (λ v. not (has space v)) ((cond t yes no ∷ []) ∷ []) ≡ true
unfolding has
letter_word true = refl
letter_word false = refl

fields_told : (zs : List ℤ) (m : ℤ) → words (spaced (map decimal zs) ++ (space ∷ exact_letter m ∷ [])) ≡ [] ∷ fields zs m
unfolding has spaced
fields_told zs m =
    ap words (sym (spaced_append (map decimal zs) ((exact_letter m ∷ []) ∷ [])))
    ∙ words_of_joined [] (fields zs m) refl
    (every_append (List ℕ) (λ v. not (has space v)) (map decimal zs) _ (no_space zs) (letter_word (is_exact m)))

pub words_tell : WordsTell
words_tell x l h b m l' h' b' m' e =
    let all = tail-eq_of_cons-eq (sym (fields_told (l ∷ h ∷ b ∷ []) m) ∙ ap words (append_cancel_left (decimal (pos x)) _ _ e)
    ∙ fields_told (l' ∷ h' ∷ b' ∷ []) m') in
    let after_low = tail-eq_of_cons-eq all in
    let after_high = tail-eq_of_cons-eq after_low in (
      (λ i. decimal_injective l l' (head-eq_of_cons-eq all) i
          ∷ decimal_injective h h' (head-eq_of_cons-eq after_low) i
          ∷ decimal_injective b b' (head-eq_of_cons-eq after_high) i
          ∷ []),
      head-eq_of_cons-eq (head-eq_of_cons-eq (tail-eq_of_cons-eq after_high)),
    )

module _ (low high bound mark : List ℤ) where
  abbrev words_at : ℕ → List ℕ
  words_at x = total_words x (get_or low x (pos 0)) (get_or high x (pos 0)) (get_or bound x (pos 0)) (get_or mark x (pos 0))

  abbrev totals : ℕ → List ℕ
  totals n = total_lines n low high bound mark

  abbrev line : ℕ → List ℕ
  line x = words_at x ++ (line_end ∷ [])

  plain : (x : ℕ) → has line_end (words_at x) ≡ false
  plain x = words_plain x (get_or low x (pos 0)) (get_or high x (pos 0)) (get_or bound x (pos 0)) (get_or mark x (pos 0))

  -- the lines of n totals are n lines
  totals_lines : (n : ℕ) → IsLines n (totals n)
  unfolding IsLines total_lines
  totals_lines zero = refl
  totals_lines (suc x) = subst (λ (k : ℕ). IsLines k (totals x ++ line x)) (add-one x)
      (lines_append x 1 (totals x) (line x) (totals_lines x)
      (subst (IsLines 1) (line_is (words_at x)) (line_text_is_line (words_at x) [] (plain x))))

  -- and that of total x stands behind those of the totals before it
  abbrev Stands : ℕ → ℕ → Type 0
  Stands n x = (later : List ℕ) × (totals n ≡ totals x ++ (line x ++ later))

  stands : (n x : ℕ) → x < n → Stands n x
  unfolding total_lines
  stands zero x l = absurd (NL.not-suc-le-zero l)
  stands (suc n) x l = by (stands n x) (NL.eq-or-lt_of_le (NL.le_of_suc-le-suc l))
    where
      by : (x < n → Stands n x) → (x ≡ n) ⊎ (x < n) → Stands (suc n) x
      by ih (inl e) = ([], rw (e, append-nil))
      by ih (inr k) =
          let found = ih k in
          (found.0 ++ line n, ap (λ (l : List ℕ). l ++ line n) found.1 ∙ simp append_assoc)

  -- ---- the table
  abbrev table : ℕ → List ℕ
  table n = table_text n low high bound mark

  pub table_heading : (n : ℕ) → line_at 1 (table n) ≡ ascii "TOTAL LOW HIGH BOUND EXACT"
  unfolding before after_lines
  table_heading n = refl

  pub table_lines : (n : ℕ) → IsLines (n + 1) (table n)
  table_lines n =
      subst (λ (k : ℕ). IsLines k (table n)) (NL.add_comm 1 n) (lines_append 1 n heading (totals n) heading_line (totals_lines n))

  pub table_line : (n x : ℕ) → x < n → line_at (x + 2) (table n) ≡ words_at x
  table_line n x l =
      let found = stands n x l in
      ap (before line_end) (
      ap (λ (k : ℕ). after_lines k (table n)) (omega arith)
      ∙ ap (after_lines (x + 1)) (ap (λ (t : List ℕ). heading ++ t) found.1)
      ∙ lines_followed (x + 1) (table x) (line x ++ found.0) (table_lines x)
      )
      ∙ subst (λ (t : List ℕ). before line_end (t ++ found.0) ≡ words_at x) (line_is (words_at x))
      ((line_text_first (words_at x) [] found.0 (plain x)).1 ∙ no_fields (words_at x))
