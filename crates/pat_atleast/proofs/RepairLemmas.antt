-- Changes of the choices with a changed row repair the result.
use Rattle.std.proofs.Common.{◌≡◌, ℕ, ◌+◌, ◌<◌, ◌≤◌, List, [], ◌∷◌, length, Bool, true, false, cond, refl, ap, sym, ◌∙◌, subst, arith}
use Rattle.std.specs.Prelude.{map, nat_lt}
use Rattle.std.specs.List.{flat_map, All}
use Rattle.std.proofs.lemmas.Bool.{ltb-true, ltb-false}
use Rattle.std.proofs.lemmas.List.{append-nil}
use Rattle.std.proofs.lemmas.List.Elements.{All-head, All-tail}
use Rattle.cedr_base.specs.declared.row.Row.{Row}
use Rattle.cedr_base.specs.declared.change.Change.{Change}
use Rattle.cedr_base.specs.declared.change.Change.TheVariants.{Add, Cut}
use Rattle.cedr_base.specs.Rows.{count_of}
use Rattle.cedr_base.specs.Changes.{sync_of, puts, takes, MayFollow}
use Rattle.cedr_base.proofs.Bags.{count_of-append}
use Rattle.change_laws.specs.Repairs.{IsMoved}
use Rattle.change_laws.proofs.Moves.{remnant_some, remnant_none}
use Rattle.cedr_table.specs.Operators.{Tables, Gains, CanTake, SameTables, table_at, with_table, least_of}
use Rattle.cedr_table.specs.Choices.{chosen}
use Rattle.cedr_expr.specs.declared.test.Test.{Test}
use Rattle.pat_state.specs.declared.answer.Way.TheVariants.{Comes, Goes}
use Rattle.pat_state.specs.Starts.{all_endless, endless_tables, scope_reaches}
use Rattle.pat_state.specs.Answers.{AllAmong, StandsByBegin, IsKeptStep, IsAnswered, answered}
use Rattle.pat_state.specs.Ascending.{sequence}
use Rattle.pat_state.specs.Steps.{picked, matches}
use Rattle.pat_state.proofs.FlatLemmas.{flat_map-like, flat_map-map}
use Rattle.pat_state.proofs.AnswerLemmas.{AllLate, ahead-append, ahead_same, comes_repairs, goes_repairs, stays_repaired}
use Rattle.pat_state.proofs.EndlessLemmas.{stands_step, length-with, from_least}
use Rattle.pat_state.proofs.FindLemmas.{length-picked}
use Rattle.pat_state.proofs.ChosenLemmas.{with_alike, chosen_none, chosen_same, found_among}
use Rattle.pat_atleast.specs.Arrangements.{arranged, ports_from}
use Rattle.pat_atleast.specs.AtLeasts.{at_least, IsAtLeast}
use Rattle.pat_atleast.specs.Finding.{order_place, found_in, all_found, in_each_order}
use Rattle.pat_atleast.proofs.CountLemmas.{count_at_least, at_least_moved}
use Rattle.pat_atleast.proofs.PlaceLemmas.{StandsOnce, picked_without, picked_with, picked_among, picked_same, picked_endless, orders_stand_once, arranged-map, orders_pick}

-- What is found in an order, or in some, with a changed row is what the row adds to what the tables' sequences give, and no row
-- of it begins before a time.
record IsFound (time : ℕ) (found without with_row : List Row) : Type 0 where
  sums : (r : Row) → count_of r found + count_of r without ≡ count_of r with_row
  late : AllLate time found

module _ (scope time : ℕ) (tests : List Test) (kept left tables : Tables) (port : ℕ) (x : Row) (among : AllAmong (scope_reaches scope time) left tables) (rows : SameTables kept (endless_tables left)) (sizes : length tables ≡ length kept)
    (within : port < length tables) (from : time ≤ x.begin) where
  -- what the tables' sequences in an order give with these rows on the port
  abbrev given : List Row → List ℕ → List Row
  given on_port order = chosen (sequence scope tests) (picked order (with_table tables port on_port))

  -- in one order
  in_order : (order : List ℕ) (b : Bool) → nat_lt (order_place port order) (length order) ≡ b → StandsOnce port order → IsFound time (cond b (matches scope tests x (order_place port order) (picked order kept)) []) (given [] order) (given (x ∷ []) order)
  in_order order true is once =
      let near = ltb-true (order_place port order) (length order) is in
      let many = length-picked order tables in
      let kept_many = length-picked order kept in
      let found = found_among scope time tests (picked order kept) (picked order left) (picked order tables) (order_place port order) x (picked_among (scope_reaches scope time) order left tables among)
      (subst (SameTables (picked order kept)) (picked_endless order left) (picked_same order kept (endless_tables left) rows)) (omega arith) (omega arith) from in
      let without = ap (chosen (sequence scope tests)) (picked_with port [] tables order within once near) ∙ chosen_none (sequence scope tests) (picked order tables) (order_place port order) (omega arith) in
      let with_row = ap (chosen (sequence scope tests)) (picked_with port (x ∷ []) tables order within once near) in
      record { sums = λ r. omega (arith, found.same.each r, ap (count_of r) without, ap (count_of r) with_row); late = found.late }
  in_order order false is once =
      let far = ltb-false (order_place port order) (length order) is in
      let without = ap (chosen (sequence scope tests)) (picked_without port [] tables order far) in
      let with_row = ap (chosen (sequence scope tests)) (picked_without port (x ∷ []) tables order far) in
      record { sums = λ r. omega (arith, ap (count_of r) without, ap (count_of r) with_row); late = tt }

  -- in some orders
  in_orders : (orders : List (List ℕ)) → All (StandsOnce port) orders → IsFound time (all_found scope tests x port kept orders) (flat_map (given []) orders) (flat_map (given (x ∷ [])) orders)
  in_orders [] once = record { sums = λ r. refl; late = tt }
  in_orders (order ∷ orders) once =
      let first = in_order order (nat_lt (order_place port order) (length order)) refl (All-head (StandsOnce port) order orders once) in
      let others = in_orders orders (All-tail (StandsOnce port) order orders once) in
      record {
        sums = λ r. omega (
          arith,
          first.sums r,
          others.sums r,
          count_of-append r (found_in scope tests x port kept order) (all_found scope tests x port kept orders),
          count_of-append r (given [] order) (flat_map (given []) orders),
          count_of-append r (given (x ∷ []) order) (flat_map (given (x ∷ [])) orders),
        );
        late = ahead-append time (found_in scope tests x port kept order) (all_found scope tests x port kept orders) first.late others.late;
      }

  -- in all orders of so many ports
  in_all : (number : ℕ) → IsFound time (all_found scope tests x port kept (arranged number (ports_from 0 (length kept)))) (at_least number scope tests (with_table tables port [])) (at_least number scope tests (with_table tables port (x ∷ [])))
  in_all number =
      let found = in_orders (arranged number (ports_from 0 (length kept))) (orders_stand_once number (length kept) port) in
      let pick = λ (on_port : List Row).
      orders_pick (chosen (sequence scope tests)) number (with_table tables port on_port)
      ∙ ap (λ (n : ℕ). flat_map (given on_port) (arranged number (ports_from 0 n))) (length-with tables port on_port ∙ sizes) in
      record {
        sums = λ r. omega (
          arith,
          found.sums r,
          ap (count_of r) (pick []),
          ap (count_of r) (pick (x ∷ [])),
          count_at_least scope tests r number (with_table tables port []),
          count_at_least scope tests r number (with_table tables port (x ∷ [])),
        );
        late = found.late;
      }

module _ {range : Type 0} (number scope : ℕ) (tests : List Test) (orders : List (List ℕ)) (kept tables : Tables) (marks : List ℕ) (port : ℕ) (c : Change) (x : Row) (stands : StandsByBegin range scope kept tables marks)
    (orders_are : orders ≡ arranged number (ports_from 0 (length kept))) (can : CanTake tables marks port c) where
  found_all : least_of marks ≤ x.begin → IsFound (least_of marks) (all_found scope tests x port kept orders) (at_least number scope tests (with_table tables port [])) (at_least number scope tests (with_table tables port (x ∷ [])))
  found_all from =
      subst (λ (os : List (List ℕ)). IsFound (least_of marks) (all_found scope tests x port kept os) (at_least number scope tests (with_table tables port [])) (at_least number scope tests (with_table tables port (x ∷ [])))) (sym orders_are)
      (in_all scope (least_of marks) tests kept stands.left tables port x stands.same stands.rows stands.table can.port_is from number)

  -- what the result has with these rows on the port
  abbrev with_rows : Row → List Row → ℕ
  with_rows r on_port = count_of r (at_least number scope tests (with_table tables port on_port))

  -- a row that comes adds the rows of its choices
  pub row_comes : (kept' : Tables) (after : List Row) (given gained : List Change) → c ≡ Add x → IsMoved c (table_at tables port) after → IsAnswered kept kept' port c Comes (all_found scope tests x port kept orders) given gained
      → Gains (at_least number scope tests tables) (at_least number scope tests (with_table tables port after)) (least_of marks) given gained
  row_comes kept' after given gained is moved answer =
      let found = found_all (subst (λ (d : Change). least_of marks ≤ sync_of d) is (from_least scope kept tables marks port stands c can)) in
      record {
        changes = map (answered Comes) answer.found;
        appended = answer.answers;
        repair = comes_repairs (least_of marks) (at_least number scope tests tables) (at_least number scope tests (with_table tables port after)) answer.found
            (ahead_same (least_of marks) answer.found (all_found scope tests x port kept orders) answer.same found.late)
            (λ r. omega (
              arith,
              at_least_moved scope tests r number tables port c after moved,
              ap (λ (d : Change). with_rows r (takes d)) is,
              ap (λ (d : Change). with_rows r (puts d)) is,
              found.sums r,
              answer.same.each r,
            ));
      }

  -- a row that goes takes them
  pub row_goes : (kept' : Tables) (end : ℕ) (after : List Row) (given gained : List Change) → c ≡ Cut x end → end ≤ x.begin → IsMoved c (table_at tables port) after → IsAnswered kept kept' port c Goes (all_found scope tests x port kept orders) given gained
      → Gains (at_least number scope tests tables) (at_least number scope tests (with_table tables port after)) (least_of marks) given gained
  row_goes kept' end after given gained is gone moved answer =
      let sees : least_of marks ≤ end = subst (λ (d : Change). least_of marks ≤ sync_of d) is (from_least scope kept tables marks port stands c can) in
      let found = found_all (omega arith) in
      record {
        changes = map (answered Goes) answer.found;
        appended = answer.answers;
        repair = goes_repairs (least_of marks) (at_least number scope tests tables) (at_least number scope tests (with_table tables port after)) answer.found
            (ahead_same (least_of marks) answer.found (all_found scope tests x port kept orders) answer.same found.late)
            (λ r. omega (
              arith,
              at_least_moved scope tests r number tables port c after moved,
              ap (λ (d : Change). with_rows r (takes d)) is,
              ap (λ (d : Change). with_rows r (puts d)) is,
              ap (with_rows r) (remnant_none x end gone),
              found.sums r,
              answer.same.each r,
            ));
      }

-- what sequences in each order give doesn't depend on ends
each_endless : (number scope : ℕ) (tests : List Test) (ts : Tables) → in_each_order number scope tests (endless_tables ts) ≡ in_each_order number scope tests ts
each_endless number scope tests ts =
    ap (flat_map (chosen (sequence scope tests))) (arranged-map all_endless number ts)
    ∙ (flat_map-map (chosen (sequence scope tests)) endless_tables (arranged number ts)
    ∙ flat_map-like (λ order. chosen (sequence scope tests) (endless_tables order)) (chosen (sequence scope tests)) (arranged number ts) (λ order. chosen_same scope tests order))

each_alike : (number scope : ℕ) (tests : List Test) (ts us : Tables) → endless_tables ts ≡ endless_tables us → in_each_order number scope tests ts ≡ in_each_order number scope tests us
each_alike number scope tests ts us same = sym (each_endless number scope tests ts) ∙ (ap (in_each_order number scope tests) same ∙ each_endless number scope tests us)

-- a row that ends earlier gives the same choices
pub row_stays : (number scope : ℕ) (tests : List Test) (tables : Tables) (marks : List ℕ) (port : ℕ) (c : Change) (x : Row) (end : ℕ) (after : List Row) (given : List Change)
    → c ≡ Cut x end → x.begin < end → IsMoved c (table_at tables port) after
    → Gains (at_least number scope tests tables) (at_least number scope tests (with_table tables port after)) (least_of marks) given given
row_stays number scope tests tables marks port c x end after given is lives moved =
    let left : all_endless (takes c) ≡ all_endless (puts c) = subst (λ (d : Change). all_endless (takes d) ≡ all_endless (puts d)) (sym is) (sym (ap all_endless (remnant_some x end lives))) in
    let same = each_alike number scope tests (with_table tables port (takes c)) (with_table tables port (puts c)) (with_alike tables port (takes c) (puts c) left) in
    record {
      changes = [];
      appended = sym (append-nil given);
      repair = stays_repaired (least_of marks) (at_least number scope tests tables) (at_least number scope tests (with_table tables port after))
          (λ r. omega (
            arith,
            at_least_moved scope tests r number tables port c after moved,
            count_at_least scope tests r number (with_table tables port (takes c)),
            count_at_least scope tests r number (with_table tables port (puts c)),
            ap (count_of r) same,
          ));
    }

-- the kept rows stand for the tables after a change
pub step_stands : (number number' scope scope' : ℕ) (kept kept' tables : Tables) (marks : List ℕ) (port : ℕ) (c : Change) (after : List Row) → number' ≡ number → scope' ≡ scope → (stands : StandsByBegin (IsAtLeast (length kept) number scope) scope kept tables marks) → MayFollow (table_at stands.left port) [] c
    → IsMoved c (table_at tables port) after → IsKeptStep kept kept' port c
    → StandsByBegin (IsAtLeast (length kept') number' scope') scope' kept' (with_table tables port after) marks
step_stands number number' scope scope' kept kept' tables marks port c after same_number same_scope stands may moved step =
    subst (λ (n : ℕ). StandsByBegin (IsAtLeast (length kept') n scope') scope' kept' (with_table tables port after) marks) (sym same_number)
    (subst (λ (s : ℕ). StandsByBegin (IsAtLeast (length kept') number s) s kept' (with_table tables port after) marks) (sym same_scope)
    (stands_step (λ n. IsAtLeast n number scope) scope kept kept' tables marks port c after stands may moved step))

-- the orders are still those of so many of the ports
pub orders_after : (number number' : ℕ) (orders orders' : List (List ℕ)) (ports ports' : ℕ) → number' ≡ number → orders' ≡ orders → ports' ≡ ports → orders ≡ arranged number (ports_from 0 ports) → orders' ≡ arranged number' (ports_from 0 ports')
orders_after number number' orders orders' ports ports' same_number same_orders same_ports are = same_orders ∙ (are ∙ (λ i. arranged (sym same_number i) (ports_from 0 (sym same_ports i))))
