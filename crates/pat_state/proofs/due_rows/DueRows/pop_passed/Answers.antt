use Rattle.std.proofs.Common.{◌≡◌, ◌∷◌, List, subst, map, slice_index_or}
use Rattle.std.specs.List.Sorted.{IsPermutation}
use Rattle.std.specs.BinaryHeap.{heap_items}
use Rattle.std.proofs.lemmas.List.Sorted.{IsPermutation-map}
use Rattle.cedr_base.specs.declared.row.Row.{Row}
use Rattle.pat_state.specs.Due.{start_row}
use Rattle.pat_state.proofs.DueLemmas.{top_first}
use Rattle.pat_state.proofs.due_rows.DueRows.pop_passed.Goals as goal

pub returns-clause-passed : goal.returns-clause-passed
returns-clause-passed c =
    let top = c.in-Some.field-0 in
    c.is_due.ensures.due c.if-not-is_due.false (start_row top)
    (subst (λ (rows : List Row). start_row top ≡ slice_index_or rows 0 (start_row top)) c.self.view_is (top_first top (heap_items c.self.inside.heap) c.in-Some.ensures.top))

pub returns-clause-left : goal.returns-clause-left
returns-clause-left c =
    subst (λ (was : List Row). IsPermutation was (start_row c.in-Some.field-0 ∷ map start_row (heap_items c.pop.new.self))) c.self.view_is
    (IsPermutation-map start_row _ _ c.in-Some.ensures.permutation)
