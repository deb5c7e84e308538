use Rattle.std.proofs.Common.{◌∷◌, subst, List, map}
use Rattle.std.specs.List.Sorted.{IsPermutation}
use Rattle.std.specs.BinaryHeap.{heap_items}
use Rattle.std.proofs.lemmas.List.Sorted.{IsPermutation-map}
use Rattle.cedr_base.specs.declared.row.Row.{Row}
use Rattle.pat_state.specs.Due.{start_row}
use Rattle.pat_state.proofs.due_rows.DueRows.push.Goals as goal

pub returns-clause-ok : goal.returns-clause-ok
returns-clause-ok c =
    subst (λ (was : List Row). IsPermutation (record { end = c.args.tag; begin = c.args.begin; payload = c.args.payload } ∷ was) (map start_row (heap_items c.push.new.self))) c.self.view_is
    (IsPermutation-map start_row _ _ c.in_ok-push.ensures.permutation)
