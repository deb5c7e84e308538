use Rattle.std.proofs.Common.{◌∷◌, subst, List, ℕ, map}
use Rattle.std.specs.List.Sorted.{IsPermutation}
use Rattle.std.specs.BinaryHeap.{heap_items}
use Rattle.std.specs.declared.cmp.Reverse.{Reverse}
use Rattle.std.proofs.lemmas.List.Sorted.{IsPermutation-map}
use Rattle.due_tags.proofs.due.DueTags.push.Goals as goal

pub returns-clause-ok : goal.returns-clause-ok
returns-clause-ok c =
    subst (λ (was : List (ℕ × ℕ)). IsPermutation ((c.args.time, c.args.tag) ∷ was) (map (λ (due : Reverse (ℕ × ℕ)). due.0) (heap_items c.push.new.self))) c.self.view_is
    (IsPermutation-map (λ (due : Reverse (ℕ × ℕ)). due.0) _ _ c.in_ok-push.ensures.permutation)
