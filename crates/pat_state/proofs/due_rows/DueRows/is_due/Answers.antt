use Rattle.std.proofs.Common.{◌≡◌, ◌∙◌, List, true, sym, subst, map}
use Rattle.std.specs.Prelude.{nat_lt}
use Rattle.std.specs.List.{All}
use Rattle.std.specs.BinaryHeap.{heap_items}
use Rattle.std.proofs.lemmas.Bool.{ltb-true, not-false}
use Rattle.std.proofs.lemmas.List.Elements.{All-from_recursion}
use Rattle.cedr_base.specs.declared.row.Row.{Row}
use Rattle.change_laws.specs.Times.{later}
use Rattle.pat_state.specs.Due.{start_row}
use Rattle.pat_state.specs.Starts.{scope_reaches}
use Rattle.pat_state.proofs.DueLemmas.{all_last}
use Rattle.pat_state.proofs.due_rows.DueRows.is_due.Goals as goal

pub returns-in-Some-clause-none : goal.returns-in-Some-clause-none
returns-in-Some-clause-none c = λ lasts.
    let top = c.in-Some.field-0.now in
    let items = heap_items c.self.inside.heap in
    let reach : nat_lt c.args.time (later top.0.0 c.args.scope) ≡ true = sym c.reaches.ensures ∙ not-false c.reaches.result lasts in
    subst (λ (rows : List Row). All (λ (row : Row). scope_reaches c.args.scope c.args.time row ≡ true) rows) c.self.view_is
    (All-from_recursion (λ (row : Row). scope_reaches c.args.scope c.args.time row ≡ true) (map start_row items)
    (all_last c.args.scope c.args.time top items (ltb-true c.args.time (later top.0.0 c.args.scope) reach) (c.in-Some.ensures.greatest c.self.invariant)))
