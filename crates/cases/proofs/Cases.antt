-- Every row of the table holds, by one test over the whole table that the checker computes from the definitions.
use mathlib.Core.Path.{ap}
use mathlib.Core.Bool.{Bool, ◌&&◌}
use mathlib.Core.List.{List, []}
use lib.Dec.{T, eqb, eqb→eq}
use lib.IntN.{ℤ, pos}
use lib.ListN.{length, get_or}
use Prim.Native.Nat.{ℕ}
use Rattle.algebra.specs.Slice.{listed}
use Rattle.algebra.specs.Smallest.{smallest}
use Rattle.algebra.specs.Sum.{accumulate}
use Rattle.algebra.specs.Table.{Equates, same_integer, same_list}
use Rattle.algebra.specs.Tabled.{with_next, history, tabled}
use Rattle.algebra.proofs.Table.{and_left, and_right, each_passes, same_integer_lem, same_list_lem}
use Rattle.model.specs.Weights.{divisor_zero}
use Rattle.model.specs.Job.{law_of, start_of, job_of}
use Rattle.model.specs.Answer.{Answer, refused, first_refusal}
use Rattle.outward.specs.Division.{floor_div, ceil_div, divides}
use Rattle.start.specs.Step.{times, repeated}
use Rattle.start.specs.Call.{Started, term, series, of_mean, of_trials, start_of_mean, start_of_trials}
use Rattle.published.specs.Call.{Made, law_of_line, law_of_panjer_willmot, law_of_hesselager}
use Rattle.enclosure.specs.Entry.{scaled, allowance, rounded}
use Rattle.rows.specs.Curve.{factor, sums_zero, sums_next, entry_at, curve_rows}
use Rattle.rows.specs.Exact.{used_zero, used_next, divides_at, exact_at, curve_marks}
use Rattle.rows.specs.Faults.{first_fault, range_fault}
use Rattle.compound.specs.Lent.{Lent, lent_rows}
use Rattle.compound.specs.Call.{curve_answer, row_after, curve_lent}
use Rattle.quantile.specs.Call.{Found, quantile_of, sure_query, possible_query}
use Rattle.layer.specs.Layer.{saving, cost_by}
use Rattle.layer.specs.Call.{LayerCosts, tells_costs, layer_checks, layer_costs}
use Rattle.text.specs.Bytes.{ascii}
use Rattle.text.specs.Lines.{before, after, has, after_lines, longer, words, spaced}
use Rattle.text.specs.Numbers.{value_from, number, digits_within, decimal}
use Rattle.text.specs.LineText.{line_text}
use Rattle.table.specs.Lines.{total_lines}
use Rattle.lines.specs.Line.{all_numbers, line}
use Rattle.grammar.specs.Reading.{weight_lines, severity_line, zero_line, last_line, start_line, term_lines, law_line, reading}
use Rattle.sheet.specs.Call.{Told, told, row_on_return}
use Rattle.fault.specs.declared.Part.{Part}
use Rattle.fault.specs.Call.{first_no_number, faulty_word, part_of, first_part, faulty_part}
use Rattle.report.specs.Report.{curve_text, report_text}
use Rattle.cases.specs.Cases.{Case, curve, reader, level, layers, mean, trials, panjer_willmot, hesselager, program, Holds, cases}
use Rattle.cases.specs.Cases.{CasesHold, test}
use Rattle.cases.specs.Cases.{numbers, same_answer, same_row, rows, same_lent, whole_numbers, terms, same_bytes, same_told}
use Rattle.cases.specs.Cases.{part_numbers, same_part, found_numbers, same_found, end_numbers, same_started}
use Rattle.cases.specs.Cases.{cost_rows, same_costs, made_numbers, made_terms, same_made}

same_answer_lem : Equates Answer same_answer
same_answer_lem x y t = ap (λ l. refused (get_or l 0 0) (get_or l 1 0)) (same_list_lem ℕ eqb eqb→eq (numbers x) (numbers y) t)

same_row_lem : Equates (List ℤ) same_row
same_row_lem = same_list_lem ℤ same_integer same_integer_lem

same_lent_lem : Equates Lent same_lent
same_lent_lem x y t =
    ap (λ l. lent_rows (get_or l 0 []) (get_or l 1 []) (get_or l 2 []) (get_or l 3 []) (get_or l 4 []))
    (same_list_lem (List ℤ) same_row same_row_lem (rows x) (rows y) t)

same_bytes_lem : Equates (List ℕ) same_bytes
same_bytes_lem = same_list_lem ℕ eqb eqb→eq

-- what the reader tells, from the lists that are compared
told_by : List ℕ → List (List ℤ) → List ℕ → Told
told_by numbers terms weights = record {
  answer = refused (get_or numbers 0 0) (get_or numbers 1 0);
  job = job_of (law_of (get_or numbers 2 0) (get_or numbers 3 0) (get_or terms 0 []) (get_or terms 1 []))
      (start_of (get_or numbers 4 0) (get_or numbers 5 0)) (get_or numbers 6 0) (get_or numbers 7 0);
  count = get_or numbers 8 0;
  weights = weights;
}

same_told_lem : Equates Told same_told
unfolding told_by
same_told_lem x y t =
    let others = and_right numbers (same_terms && weights) t in
    λ i. told_by
    (same_bytes_lem (whole_numbers x) (whole_numbers y) (and_left numbers (same_terms && weights) t) i)
    (same_list_lem (List ℤ) same_row same_row_lem (terms x) (terms y) (and_left same_terms weights others) i)
    (same_bytes_lem x.weights y.weights (and_right same_terms weights others) i)
  where
    numbers : Bool
    numbers = same_bytes (whole_numbers x) (whole_numbers y)

    same_terms : Bool
    same_terms = same_list same_row (terms x) (terms y)

    weights : Bool
    weights = same_bytes x.weights y.weights

same_part_lem : Equates Part same_part
same_part_lem x y t = ap (λ l. part_of (get_or l 0 0) (get_or l 1 0)) (same_bytes_lem (part_numbers x) (part_numbers y) t)

same_found_lem : Equates Found same_found
same_found_lem x y t =
    ap (λ l. record { answer = refused (get_or l 0 0) (get_or l 1 0); total = get_or l 2 0 }) (same_bytes_lem (found_numbers x) (found_numbers y) t)

-- layer costs, from the lists that are compared
costs_by : Answer → List (List ℤ) → LayerCosts
costs_by answer rows = tells_costs answer (get_or rows 0 []) (get_or rows 1 [])

same_costs_lem : Equates LayerCosts same_costs
unfolding costs_by
same_costs_lem x y t = λ i. costs_by
    (same_answer_lem x.answer y.answer (and_left answered returned t) i)
    (same_list_lem (List ℤ) same_row same_row_lem (cost_rows x) (cost_rows y) (and_right answered returned t) i)
  where
    answered : Bool
    answered = same_answer x.answer y.answer

    returned : Bool
    returned = same_list same_row (cost_rows x) (cost_rows y)

-- an answer and a start, from the lists that are compared
started_by : Answer → List ℤ → Started
started_by answer ends = record { answer = answer; ends = record { low = get_or ends 0 (pos 0); high = get_or ends 1 (pos 0) } }

same_started_lem : Equates Started same_started
unfolding started_by
same_started_lem x y t = λ i. started_by
    (same_answer_lem x.answer y.answer (and_left answered ended t) i)
    (same_row_lem (end_numbers x) (end_numbers y) (and_right answered ended t) i)
  where
    answered : Bool
    answered = same_answer x.answer y.answer

    ended : Bool
    ended = same_row (end_numbers x) (end_numbers y)

-- a law made, from the lists that are compared
made_by : List ℕ → List (List ℤ) → Made
made_by numbers terms = record {
  answer = refused (get_or numbers 0 0) (get_or numbers 1 0);
  law = law_of (get_or numbers 2 0) (get_or numbers 3 0) (get_or terms 0 []) (get_or terms 1 []);
}

same_made_lem : Equates Made same_made
unfolding made_by
same_made_lem x y t = λ i. made_by
    (same_bytes_lem (made_numbers x) (made_numbers y) (and_left numbers same_terms t) i)
    (same_list_lem (List ℤ) same_row same_row_lem (made_terms x) (made_terms y) (and_right numbers same_terms t) i)
  where
    numbers : Bool
    numbers = same_bytes (made_numbers x) (made_numbers y)

    same_terms : Bool
    same_terms = same_list same_row (made_terms x) (made_terms y)

-- a row that passes the test holds
sound : (c : Case) → T (test c) → Holds c
sound (curve job weights lent answer after) t = (
  same_answer_lem (curve_answer job weights lent) answer (and_left answered returned t),
  same_lent_lem (curve_lent job weights lent) after (and_right answered returned t),
)
  where
    answered : Bool
    answered = same_answer (curve_answer job weights lent) answer

    returned : Bool
    returned = same_lent (curve_lent job weights lent) after
sound (reader s row says after word part) t =
    let others = and_right tells (returned && (handed && placed)) t in
    let handing = and_right returned (handed && placed) others in (
      same_told_lem (told (reading (length row) s)) says (and_left tells (returned && (handed && placed)) t),
      same_bytes_lem (row_on_return (reading (length row) s) row) after (and_left returned (handed && placed) others),
      same_bytes_lem (faulty_word (length row) s) word (and_left handed placed handing),
      same_part_lem (faulty_part (length row) s) part (and_right handed placed handing),
    )
  where
    tells : Bool
    tells = same_told (told (reading (length row) s)) says

    returned : Bool
    returned = same_bytes (row_on_return (reading (length row) s) row) after

    handed : Bool
    handed = same_bytes (faulty_word (length row) s) word

    placed : Bool
    placed = same_part (faulty_part (length row) s) part
sound (level low high L sure possible) t = (
  same_found_lem (sure_query low high L) sure (and_left surely possibly t),
  same_found_lem (possible_query low high L) possible (and_right surely possibly t),
)
  where
    surely : Bool
    surely = same_found (sure_query low high L) sure

    possibly : Bool
    possibly = same_found (possible_query low high L) possible
sound (layers low high list answer_low answer_high says) t = same_costs_lem (layer_costs low high list answer_low answer_high) says t
sound (mean r s answer) t = same_started_lem (start_of_mean r s) answer t
sound (trials r s N answer) t = same_started_lem (start_of_trials r s N) answer t
sound (panjer_willmot α₀ α₁ β₀ β₁ answer) t = same_made_lem (law_of_panjer_willmot α₀ α₁ β₀ β₁) answer t
sound (hesselager b₀ b₁ a₀ a₁ answer) t = same_made_lem (law_of_hesselager b₀ b₁ a₀ a₁) answer t
sound (program s text) t = same_bytes_lem (report_text s) (ascii text) t

pub cases_hold : CasesHold
unfolding curve_answer curve_lent row_after range_fault first_fault curve_rows tabled history with_next entry_at sums_next sums_zero divisor_zero factor
    curve_marks exact_at divides_at used_zero used_next divides
    allowance rounded scaled
    first_refusal ceil_div floor_div accumulate smallest listed
    reading law_line term_lines start_line last_line zero_line severity_line weight_lines line all_numbers first_no_number first_part
    number value_from words longer after_lines before after has
    sure_query possible_query quantile_of
    layer_costs layer_checks cost_by saving
    start_of_mean start_of_trials of_mean of_trials series term repeated times
    law_of_line
    report_text curve_text total_lines line_text spaced decimal digits_within
cases_hold c m = sound c (each_passes Case test cases tt c m)
