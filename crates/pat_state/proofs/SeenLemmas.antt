-- How far the row of a choice sees its rows.
use Rattle.std.proofs.Common.{◌≡◌, ℕ, ◌<◌, ◌≤◌, List, [], ◌∷◌, ◌++◌, Bool, true, false, cond, refl, ap, ◌∙◌, arith, min}
use Rattle.std.specs.Prelude.{sum_by, nat_lt, ◌&&◌}
use Rattle.std.proofs.lemmas.Bool.{ltb-true, and_parts}
use Rattle.cedr_base.specs.declared.row.Row.{Row}
use Rattle.cedr_base.specs.Rows.{IsRow, AreRows}
use Rattle.change_laws.specs.Times.{later}
use Rattle.change_laws.proofs.Moves.{sum_one}
use Rattle.change_laws.proofs.AgreeLemmas.{share}
use Rattle.change_laws.proofs.AgreeSums.{late_share}
use Rattle.cedr_table.proofs.ChoicesAgree.{SeesChoicesUpTo}
use Rattle.cedr_table.proofs.RowsLemmas.{none_are, one_are}
use Rattle.cedr_expr.specs.declared.test.Test.{Test}
use Rattle.cedr_expr.specs.Tests.{passes}
use Rattle.pat_state.specs.Ascending.{ascends, last_begin, payloads_joined, choice_row, sequence}

-- where rows begin one after the other, the last begins no earlier than a time that they all begin after
last_from : (after limit : ℕ) (rs : List Row) → ascends after limit rs ≡ true → after ≤ last_begin after rs
last_from after limit [] h = omega arith
last_from after limit (e ∷ es) h =
    let parts = and_parts (nat_lt after e.begin) (ascends e.begin limit es) h in
    let less = ltb-true after e.begin parts.0 in
    let rest = last_from e.begin limit es parts.1 in
    omega arith

-- the last begins no earlier than any of them
last_from_one : (after limit : ℕ) (before rest : List Row) (x : Row) → ascends after limit (before ++ x ∷ rest) ≡ true → x.begin ≤ last_begin after (before ++ x ∷ rest)
last_from_one after limit [] rest x h = last_from x.begin limit rest (and_parts (nat_lt after x.begin) (ascends x.begin limit rest) h).1
last_from_one after limit (e ∷ before) rest x h = last_from_one e.begin limit before rest x (and_parts (nat_lt after e.begin) (ascends e.begin limit (before ++ x ∷ rest)) h).1

-- when a row of a choice ends doesn't matter
ascends_alike : (after limit : ℕ) (before rest : List Row) (x : Row) (end : ℕ) → ascends after limit (before ++ record x { end = end } ∷ rest) ≡ ascends after limit (before ++ x ∷ rest)
ascends_alike after limit [] rest x end = refl
ascends_alike after limit (e ∷ before) rest x end = ap (λ b. nat_lt after e.begin && b) (ascends_alike e.begin limit before rest x end)

last_alike : (after : ℕ) (before rest : List Row) (x : Row) (end : ℕ) → last_begin after (before ++ record x { end = end } ∷ rest) ≡ last_begin after (before ++ x ∷ rest)
last_alike after [] rest x end = refl
last_alike after (e ∷ before) rest x end = last_alike e.begin before rest x end

joined_alike : (before rest : List Row) (x : Row) (end : ℕ) → payloads_joined (before ++ record x { end = end } ∷ rest) ≡ payloads_joined (before ++ x ∷ rest)
joined_alike [] rest x end = refl
joined_alike (e ∷ before) rest x end = ap (λ fields. e.payload ++ fields) (joined_alike before rest x end)

module _ (t : ℕ) (q : Row) (scope : ℕ) (tests : List Test) where
  abbrev weight : List Row → ℕ
  weight rs = sum_by (share t q) (sequence scope tests rs)

  late_at : (e : Row) (es : List Row) (up pass : Bool) → (up ≡ true → t ≤ last_begin e.begin es) → sum_by (share t q) (cond (up && pass) (choice_row scope e es ∷ []) []) ≡ 0
  late_at e es true true h = sum_one (share t q) (choice_row scope e es) true ∙ late_share t q (choice_row scope e es) (h refl)
  late_at e es true false h = refl
  late_at e es false pass h = refl

  -- a choice with a late row gives a late row or none
  sequence_late : (before after : List Row) (x : Row) → IsRow x → t ≤ x.begin → weight (before ++ x ∷ after) ≡ 0
  sequence_late [] after x row from =
      late_at x after (ascends x.begin (later x.begin scope) after) (passes tests (payloads_joined (x ∷ after)) []) (λ up. let last = last_from x.begin (later x.begin scope) after up in omega arith)
  sequence_late (e ∷ before) after x row from =
      late_at e (before ++ x ∷ after) (ascends e.begin (later e.begin scope) (before ++ x ∷ after)) (passes tests (payloads_joined (e ∷ (before ++ x ∷ after))) [])
      (λ up. let last = last_from_one e.begin (later e.begin scope) before after x up in omega arith)

  sequence_early : (before after : List Row) (x : Row) → IsRow x → x.begin < t → weight (before ++ record x { end = min x.end t } ∷ after) ≡ weight (before ++ x ∷ after)
  sequence_early [] after x row early = refl
  sequence_early (e ∷ before) after x row early =
      λ i. sum_by (share t q) (cond (ascends_alike e.begin (later e.begin scope) before after x (min x.end t) i && passes tests (e.payload ++ joined_alike before after x (min x.end t) i) [])
      (record { end = later e.begin scope; begin = last_alike e.begin before after x (min x.end t) i; payload = e.payload ++ joined_alike before after x (min x.end t) i } ∷ []) [])

  pub sequence_sees : SeesChoicesUpTo t weight
  sequence_sees = record { late = sequence_late; early = sequence_early }

-- rows that begin one after the other before a limit: the last does too
last_before : (after limit : ℕ) (rs : List Row) → ascends after limit rs ≡ true → last_begin after rs < limit
last_before after limit [] up = ltb-true after limit up
last_before after limit (e ∷ es) up = last_before e.begin limit es (and_parts (nat_lt after e.begin) (ascends e.begin limit es) up).1

-- a choice gives a row or none
pub sequence_are : (scope : ℕ) (tests : List Test) (rs : List Row) → AreRows (sequence scope tests rs)
sequence_are scope tests [] = none_are
sequence_are scope tests (e ∷ es) = one_are (ascends e.begin (later e.begin scope) es && passes tests (payloads_joined (e ∷ es)) []) (choice_row scope e es) (λ both.
    let up = (and_parts (ascends e.begin (later e.begin scope) es) (passes tests (payloads_joined (e ∷ es)) []) both).0 in
    let order = last_before e.begin (later e.begin scope) es up in
    record { lives = order; begins = omega arith; ends = omega arith })
