use Rattle.std.proofs.Common.{◌≡◌, ◌∷◌, ℕ, List, subst, map, slice_index_or}
use Rattle.std.specs.List.Sorted.{IsPermutation}
use Rattle.std.specs.BinaryHeap.{heap_items}
use Rattle.std.specs.declared.cmp.Reverse.{Reverse}
use Rattle.std.proofs.lemmas.List.Sorted.{IsPermutation-map}
use Rattle.due_tags.proofs.DueLemmas.{popped_first}
use Rattle.due_tags.proofs.due.DueTags.pop_due.Goals as goal

pub returns-clause-due : goal.returns-clause-due
returns-clause-due c =
    let top = c.in-Some.field-0 in
    c.is_due.ensures.due c.if-not-is_due.false top.0
    (subst (λ (dues : List (ℕ × ℕ)). top.0 ≡ slice_index_or dues 0 top.0) c.self.view_is (popped_first top (heap_items c.self.inside.heap) c.in-Some.ensures.top))

pub returns-clause-left : goal.returns-clause-left
returns-clause-left c =
    subst (λ (was : List (ℕ × ℕ)). IsPermutation was (c.in-Some.field-0.0 ∷ map (λ (due : Reverse (ℕ × ℕ)). due.0) (heap_items c.pop.new.self))) c.self.view_is
    (IsPermutation-map (λ (due : Reverse (ℕ × ℕ)). due.0) _ _ c.in-Some.ensures.permutation)
