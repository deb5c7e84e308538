-- Changes of the choices with a changed row repair the result.
use Rattle.std.proofs.Common.{◌≡◌, ℕ, ◌<◌, ◌≤◌, List, [], ◌∷◌, length, ap, sym, ◌∙◌, subst, arith}
use Rattle.std.specs.Prelude.{map}
use Rattle.std.proofs.lemmas.List.{append-nil}
use Rattle.cedr_base.specs.declared.row.Row.{Row}
use Rattle.cedr_base.specs.declared.change.Change.{Change}
use Rattle.cedr_base.specs.declared.change.Change.TheVariants.{Add, Cut}
use Rattle.cedr_base.specs.Rows.{count_of}
use Rattle.cedr_base.specs.Changes.{sync_of, puts, takes, MayFollow}
use Rattle.change_laws.specs.Repairs.{IsMoved}
use Rattle.change_laws.proofs.BagSums.{same_along}
use Rattle.change_laws.proofs.Moves.{remnant_some, remnant_none}
use Rattle.change_laws.proofs.RepairLemmas.{Turns}
use Rattle.cedr_table.specs.Operators.{Tables, Gains, CanTake, table_at, mark_at, with_table, least_of}
use Rattle.cedr_table.specs.PortLaws.{least_below}
use Rattle.cedr_table.specs.Choices.{chosen}
use Rattle.cedr_table.proofs.ChoiceLemmas.{chosen_repairs}
use Rattle.cedr_expr.specs.declared.test.Test.{Test}
use Rattle.pat_state.specs.declared.answer.Way.TheVariants.{Comes, Goes}
use Rattle.pat_state.specs.Starts.{all_endless}
use Rattle.pat_state.specs.Answers.{answered, StandsByBegin, IsKeptStep, IsAnswered}
use Rattle.pat_state.proofs.AnswerLemmas.{ahead_same, come_turns, go_turns, same_turns}
use Rattle.pat_state.proofs.EndlessLemmas.{stands_step}
use Rattle.pat_state.specs.Ascending.{sequence}
use Rattle.pat_seq.specs.Sequences.{IsSequence}
use Rattle.pat_state.specs.Steps.{matches}
use Rattle.pat_state.proofs.ChosenLemmas.{alike_ends, with_alike, chosen_none, IsFound, found_among}

found : {range : Type 0} (scope : ℕ) (tests : List Test) (kept tables : Tables) (marks : List ℕ) (port : ℕ) (x : Row) → StandsByBegin range scope kept tables marks → port < length tables → mark_at marks port ≤ x.begin
    → IsFound scope tests (least_of marks) tables port x (matches scope tests x port kept)
found scope tests kept tables marks port x stands within from =
    let sizes = stands.table in
    let lengths = stands.mark in
    let least = least_below port marks (omega arith) in
    found_among scope (least_of marks) tests kept stands.left tables port x stands.same stands.rows sizes within (omega arith)

-- a row that comes adds the rows of its choices
pub row_comes : {range : Type 0} (scope : ℕ) (tests : List Test) (kept kept' tables : Tables) (marks : List ℕ) (port : ℕ) (c : Change) (x : Row) (after : List Row) (given gained : List Change)
    → c ≡ Add x → StandsByBegin range scope kept tables marks → CanTake tables marks port c → IsMoved c (table_at tables port) after → IsAnswered kept kept' port c Comes (matches scope tests x port kept) given gained
    → Gains (chosen (sequence scope tests) tables) (chosen (sequence scope tests) (with_table tables port after)) (least_of marks) given gained
row_comes scope tests kept kept' tables marks port c x after given gained is stands can moved answered_ =
    let within = can.port_is in
    let from : mark_at marks port ≤ x.begin = subst (λ (d : Change). mark_at marks port ≤ sync_of d) is can.from in
    let rows = found scope tests kept tables marks port x stands within from in
    record {
      changes = map (answered Comes) answered_.found;
      appended = answered_.answers;
      repair = chosen_repairs (sequence scope tests) tables port c after (least_of marks) (map (answered Comes) answered_.found) within can.legal moved
          (subst (λ (d : Change). Turns (least_of marks) (chosen (sequence scope tests) (with_table tables port (takes d))) (chosen (sequence scope tests) (with_table tables port (puts d))) (map (answered Comes) answered_.found)) (sym is)
          (subst (λ (olds : List Row). Turns (least_of marks) olds (chosen (sequence scope tests) (with_table tables port (x ∷ []))) (map (answered Comes) answered_.found)) (sym (chosen_none (sequence scope tests) tables port within))
          (come_turns (least_of marks) answered_.found (chosen (sequence scope tests) (with_table tables port (x ∷ []))) (ahead_same (least_of marks) answered_.found (matches scope tests x port kept) answered_.same rows.late) (same_along answered_.found (matches scope tests x port kept) (chosen (sequence scope tests) (with_table tables port (x ∷ []))) answered_.same rows.same))));
    }

-- a row that goes takes them
pub row_goes : {range : Type 0} (scope : ℕ) (tests : List Test) (kept kept' tables : Tables) (marks : List ℕ) (port : ℕ) (c : Change) (x : Row) (end : ℕ) (after : List Row) (given gained : List Change)
    → c ≡ Cut x end → end ≤ x.begin → StandsByBegin range scope kept tables marks → CanTake tables marks port c → IsMoved c (table_at tables port) after → IsAnswered kept kept' port c Goes (matches scope tests x port kept) given gained
    → Gains (chosen (sequence scope tests) tables) (chosen (sequence scope tests) (with_table tables port after)) (least_of marks) given gained
row_goes scope tests kept kept' tables marks port c x end after given gained is gone stands can moved answered_ =
    let within = can.port_is in
    let from : mark_at marks port ≤ end = subst (λ (d : Change). mark_at marks port ≤ sync_of d) is can.from in
    let rows = found scope tests kept tables marks port x stands within (omega arith) in
    record {
      changes = map (answered Goes) answered_.found;
      appended = answered_.answers;
      repair = chosen_repairs (sequence scope tests) tables port c after (least_of marks) (map (answered Goes) answered_.found) within can.legal moved
          (subst (λ (d : Change). Turns (least_of marks) (chosen (sequence scope tests) (with_table tables port (takes d))) (chosen (sequence scope tests) (with_table tables port (puts d))) (map (answered Goes) answered_.found)) (sym is)
          (subst (λ (news : List Row). Turns (least_of marks) (chosen (sequence scope tests) (with_table tables port (x ∷ []))) news (map (answered Goes) answered_.found)) (sym (ap (λ (left : List Row). chosen (sequence scope tests) (with_table tables port left)) (remnant_none x end gone) ∙ chosen_none (sequence scope tests) tables port within))
          (go_turns (least_of marks) answered_.found (chosen (sequence scope tests) (with_table tables port (x ∷ []))) (ahead_same (least_of marks) answered_.found (matches scope tests x port kept) answered_.same rows.late) (same_along answered_.found (matches scope tests x port kept) (chosen (sequence scope tests) (with_table tables port (x ∷ []))) answered_.same rows.same))));
    }

-- a row that ends earlier gives the same choices
pub row_stays : (scope : ℕ) (tests : List Test) (tables : Tables) (marks : List ℕ) (port : ℕ) (c : Change) (x : Row) (end : ℕ) (after : List Row) (given : List Change)
    → c ≡ Cut x end → x.begin < end → CanTake tables marks port c → IsMoved c (table_at tables port) after
    → Gains (chosen (sequence scope tests) tables) (chosen (sequence scope tests) (with_table tables port after)) (least_of marks) given given
row_stays scope tests tables marks port c x end after given is lives can moved =
    let left : all_endless (takes c) ≡ all_endless (puts c) = subst (λ (d : Change). all_endless (takes d) ≡ all_endless (puts d)) (sym is) (sym (ap all_endless (remnant_some x end lives))) in
    let same = alike_ends scope tests (with_table tables port (takes c)) (with_table tables port (puts c)) (with_alike tables port (takes c) (puts c) left) in
    record {
      changes = [];
      appended = sym (append-nil given);
      repair = chosen_repairs (sequence scope tests) tables port c after (least_of marks) [] can.port_is can.legal moved
          (same_turns (least_of marks) (chosen (sequence scope tests) (with_table tables port (takes c))) (chosen (sequence scope tests) (with_table tables port (puts c))) (record { each = λ r. ap (count_of r) same }));
    }

-- the kept rows stand for the tables after a change
pub step_stands : (scope scope' : ℕ) (kept kept' tables : Tables) (marks : List ℕ) (port : ℕ) (c : Change) (after : List Row) → scope' ≡ scope → (stands : StandsByBegin (IsSequence (length kept) scope) scope kept tables marks) → MayFollow (table_at stands.left port) [] c → IsMoved c (table_at tables port) after → IsKeptStep kept kept' port c
    → StandsByBegin (IsSequence (length kept') scope') scope' kept' (with_table tables port after) marks
step_stands scope scope' kept kept' tables marks port c after same stands may moved step =
    subst (λ (s : ℕ). StandsByBegin (IsSequence (length kept') s) s kept' (with_table tables port after) marks) (sym same)
    (stands_step (λ n. IsSequence n scope) scope kept kept' tables marks port c after stands may moved step)
