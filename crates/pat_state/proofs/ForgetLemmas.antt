-- Rows whose scope ended by a time leave a bag, or all ports.
use Rattle.std.proofs.Common.{◌≡◌, ℕ, zero, suc, ◌+◌, ◌*◌, ◌<◌, ◌≤◌, ◌⊎◌, inl, inr, List, [], ◌∷◌, Bool, true, false, cond, not, length, refl, ap, sym, ◌∙◌, arith, Option, Some, None, replicate}
use Rattle.std.specs.Prelude.{map, filter, IfSome}
use Rattle.std.proofs.lemmas.List.Folds.{sum_by-replicate}
use Rattle.std.specs.declared.cmp.Ordering.TheVariants.{Equal, Greater}
use Rattle.std.specs.Ordering.{is_le, nat_cmp, ordering_then}
use Rattle.std.specs.Cmp.{nat_cmp_is}
use Rattle.std.proofs.lemmas.Bool.{cases_lt, lt-ltb, ltb-true, not-false}
use Rattle.cedr_base.specs.declared.row.Row.{Row}
use Rattle.cedr_base.specs.Order.{payload_cmp}
use Rattle.cedr_base.specs.declared.time.TheConstants.{FOREVER}
use Rattle.cedr_base.specs.Rows.{row_cmp, count_of, one_if_same, SameRows}
use Rattle.cedr_base.proofs.Bags.{count_of-append, one_of_itself}
use Rattle.change_laws.specs.Times.{later}
use Rattle.change_laws.proofs.BagSums.{same_itself}
use Rattle.cedr_table.specs.Counted.{IsFirst, IsTakenOut}
use Rattle.cedr_table.specs.Operators.{Tables, table_at, least_of, AllRise, SameTables}
use Rattle.cedr_table.proofs.FilterLemmas.{count-filter, among_along, among_filter}
use Rattle.pat_state.specs.Starts.{endless, all_endless, endless_tables, scope_reaches, AreEndless}
use Rattle.pat_state.specs.Answers.{AllAmong, AreForgotten, StandsByBegin}
use Rattle.pat_state.proofs.EndlessLemmas.{stands_later}

begins_first_at : (a b : Row) → a.end ≡ b.end → is_le (row_cmp a b) ≡ true → a.begin ≤ b.begin
begins_first_at a b ends h = elim (cases_lt b.begin a.begin) [
  | inl behind ↦
      (let same = sym (nat_cmp_is a.end b.end Equal ends) in
      let after = sym (nat_cmp_is a.begin b.begin Greater behind) in
      let k : ordering_then (nat_cmp a.end b.end) (ordering_then (nat_cmp a.begin b.begin) (payload_cmp a.payload b.payload)) ≡ Greater = (λ i. ordering_then (same i) (ordering_then (after i) (payload_cmp a.payload b.payload))) in
      absurd (let z = ap is_le k in cc))
  | inr upto ↦ upto
]

-- of rows that never end the first one begins no later than any other
begins_first : (a b : Row) (rows : List Row) → AreEndless rows → IsFirst a rows → 0 < count_of b rows → a.begin ≤ b.begin
begins_first a b rows endless_rows first there = begins_first_at a b (endless_rows a first.there ∙ sym (endless_rows b there)) (first.least b there)

-- where the first one's scope ends after a time, that of each does
pub all_reach : (scope time : ℕ) (a : Row) (rows : List Row) → AreEndless rows → IsFirst a rows → scope_reaches scope time a ≡ true → (r : Row) → 0 < count_of r rows → not (scope_reaches scope time r) ≡ false
all_reach scope time a rows endless_rows first reach r there =
    let low = begins_first a r rows endless_rows first there in
    let ends = ltb-true time (later a.begin scope) reach in
    ap not (lt-ltb time (later r.begin scope) (omega arith))

-- where one's scope ends by a time, the first one's does
pub first_passed : (scope time : ℕ) (a b : Row) (rows : List Row) → AreEndless rows → IsFirst a rows → 0 < count_of b rows → scope_reaches scope time b ≡ false → not (scope_reaches scope time a) ≡ true
first_passed scope time a b rows endless_rows first there passed = passed_at (scope_reaches scope time a) refl where
  passed_at : (d : Bool) → scope_reaches scope time a ≡ d → not (scope_reaches scope time a) ≡ true
  passed_at true is = absurd (let e = not-false (scope_reaches scope time b) (all_reach scope time a rows endless_rows first is b there) in cc)
  passed_at false is = ap not is

-- what never ends does so where fewer rows are left
pub endless_left : (rows left : List Row) → ((r : Row) → count_of r left ≤ count_of r rows) → AreEndless rows → AreEndless left
endless_left rows left fewer endless_rows = λ r there. endless_rows r (let few = fewer r in omega arith)

-- of rows that never end all copies of one are taken, so that none with its begin and its payload is left
pub taken_alone : (goes : Row → Bool) (old new : List Row) (out : Option (Row × ℕ)) → AreEndless old → IsTakenOut goes old new out → IfSome out (λ gone. (r : Row) → r.begin ≡ gone.0.begin → r.payload ≡ gone.0.payload → count_of r new ≡ 0)
taken_alone goes old new None endless_rows out = tt
taken_alone goes old new (Some p) endless_rows out = λ r begins pays. none_left r (cases_lt 0 (count_of r new)) begins pays where
  parts : (r : Row) → count_of r old ≡ p.1 * one_if_same r p.0 + count_of r new
  parts r = omega (arith, out.3.each r, count_of-append r (replicate p.1 p.0) new, sum_by-replicate (one_if_same r) p.1 p.0)

  its_end : p.0.end ≡ FOREVER
  its_end = let some = out.1 in let count = out.2 in endless_rows p.0 (omega (arith, some, count))

  gone_all : count_of p.0 new ≡ 0
  gone_all = let count = out.2 in omega (arith, count, parts p.0, ap (λ n. p.1 * n) (one_of_itself p.0))

  none_left : (r : Row) → (0 < count_of r new) ⊎ (count_of r new ≤ 0) → r.begin ≡ p.0.begin → r.payload ≡ p.0.payload → count_of r new ≡ 0
  none_left r (inr none) begins pays = omega (arith, none)
  none_left r (inl there) begins pays =
      let ends : r.end ≡ p.0.end = endless_rows r (omega (arith, there, parts r)) ∙ sym its_end in
      let same : r ≡ p.0 = (λ i. record { end = ends i; begin = begins i; payload = pays i }) in
      ap (λ (x : Row). count_of x new) same ∙ gone_all

filter_endless_at : (scope time : ℕ) (x : Row) (xs : List Row) (b : Bool) → all_endless (filter (scope_reaches scope time) xs) ≡ filter (scope_reaches scope time) (all_endless xs)
    → all_endless (cond b (x ∷ filter (scope_reaches scope time) xs) (filter (scope_reaches scope time) xs)) ≡ cond b (endless x ∷ filter (scope_reaches scope time) (all_endless xs)) (filter (scope_reaches scope time) (all_endless xs))
filter_endless_at scope time x xs true rest = ap (λ rows. endless x ∷ rows) rest
filter_endless_at scope time x xs false rest = rest

-- whether a row reaches beyond a time doesn't depend on its end
pub filter_endless : (scope time : ℕ) (xs : List Row) → all_endless (filter (scope_reaches scope time) xs) ≡ filter (scope_reaches scope time) (all_endless xs)
filter_endless scope time [] = refl
filter_endless scope time (x ∷ xs) = filter_endless_at scope time x xs (scope_reaches scope time x) (filter_endless scope time xs)

forgotten_rows : (scope time : ℕ) (kept kept' left : Tables) → AreForgotten scope time kept kept' → SameTables kept (endless_tables left) → SameTables kept' (endless_tables (map (filter (scope_reaches scope time)) left))
forgotten_rows scope time [] [] [] forgotten same = tt
forgotten_rows scope time [] [] (l ∷ ls) forgotten same = absurd same
forgotten_rows scope time [] (u ∷ us) left forgotten same = absurd forgotten
forgotten_rows scope time (t ∷ ts) [] left forgotten same = absurd forgotten
forgotten_rows scope time (t ∷ ts) (u ∷ us) [] forgotten same = absurd same
forgotten_rows scope time (t ∷ ts) (u ∷ us) (l ∷ ls) forgotten same = (
  record {
    each = λ r.
        forgotten.0.each r
        ∙ (count-filter r (scope_reaches scope time) t
        ∙ (ap (λ n. cond (scope_reaches scope time r) n 0) (same.0.each r)
        ∙ (sym (count-filter r (scope_reaches scope time) (all_endless l)) ∙ ap (count_of r) (sym (filter_endless scope time l)))));
  },
  forgotten_rows scope time ts us ls forgotten.1 same.1,
)

forgotten_among : (p : Row → Bool) (left tables : Tables) → AllAmong p left tables → AllAmong p (map (filter p) left) tables
forgotten_among p [] [] are = tt
forgotten_among p [] (u ∷ us) are = absurd are
forgotten_among p (t ∷ ts) [] are = absurd are
forgotten_among p (t ∷ ts) (u ∷ us) are = (among_along p (filter p t) t u (among_filter p (filter p t) t (same_itself (filter p t))) are.0, forgotten_among p ts us are.1)

-- there are as many ports after rows were forgotten as before
pub forgotten_length : (scope time : ℕ) (kept kept' : Tables) → AreForgotten scope time kept kept' → length kept' ≡ length kept
forgotten_length scope time [] [] h = refl
forgotten_length scope time [] (u ∷ us) h = absurd h
forgotten_length scope time (t ∷ ts) [] h = absurd h
forgotten_length scope time (t ∷ ts) (u ∷ us) h = ap (λ n. suc n) (forgotten_length scope time ts us h.1)

-- where the rows whose scope ended by the least mark are forgotten, the others stand for the same tables
pub stands_forgotten : {range : Type 0} (scope : ℕ) (kept kept' tables : Tables) (earlier marks : List ℕ) → StandsByBegin range scope kept tables earlier → AllRise earlier marks → AreForgotten scope (least_of marks) kept kept' → StandsByBegin range scope kept' tables marks
stands_forgotten scope kept kept' tables earlier marks h rise forgotten =
    let later = stands_later scope kept tables earlier marks h rise in
    record {
      range = later.range;
      table = later.table ∙ sym (forgotten_length scope (least_of marks) kept kept' forgotten);
      mark = later.mark ∙ sym (forgotten_length scope (least_of marks) kept kept' forgotten);
      left = map (filter (scope_reaches scope (least_of marks))) later.left;
      same = forgotten_among (scope_reaches scope (least_of marks)) later.left tables later.same;
      rows = forgotten_rows scope (least_of marks) kept kept' later.left forgotten later.rows;
    }

-- what was forgotten port by port was on all ports
pub all_forgotten : (scope time : ℕ) (old new : Tables) → length new ≡ length old → ((port : ℕ) → port < length old → SameRows (table_at new port) (filter (scope_reaches scope time) (table_at old port))) → AreForgotten scope time old new
all_forgotten scope time [] [] same each = tt
all_forgotten scope time [] (u ∷ us) same each = absurd (omega arith)
all_forgotten scope time (t ∷ ts) [] same each = absurd (omega arith)
all_forgotten scope time (t ∷ ts) (u ∷ us) same each = (each 0 (omega arith), all_forgotten scope time ts us (omega arith) (λ port within. each (suc port) (omega arith)))

some_reach : (b : Bool) (n : ℕ) → 0 < cond b n 0 → b ≡ true
some_reach true n there = refl
some_reach false n there = absurd (omega arith)

-- and the scope of each of them ends after it
pub forgotten_reach : (scope time : ℕ) (kept kept' : Tables) → AreForgotten scope time kept kept' → (port : ℕ) (r : Row) → 0 < count_of r (table_at kept' port) → scope_reaches scope time r ≡ true
forgotten_reach scope time [] [] h port r there = absurd (omega arith)
forgotten_reach scope time [] (u ∷ us) h port r there = absurd h
forgotten_reach scope time (t ∷ ts) [] h port r there = absurd h
forgotten_reach scope time (t ∷ ts) (u ∷ us) h zero r there = some_reach (scope_reaches scope time r) (count_of r t) (omega (arith, h.0.each r, count-filter r (scope_reaches scope time) t))
forgotten_reach scope time (t ∷ ts) (u ∷ us) h (suc port) r there = forgotten_reach scope time ts us h.1 port r there
