use Rattle.std.proofs.Common.{ℕ, ◌<◌, List, subst, map}
use Rattle.std.specs.List.{All}
use Rattle.std.specs.BinaryHeap.{heap_items}
use Rattle.std.specs.declared.cmp.Reverse.{Reverse}
use Rattle.std.proofs.lemmas.Bool.{leb-false}
use Rattle.std.proofs.lemmas.List.Elements.{All-from_recursion}
use Rattle.due_tags.proofs.DueLemmas.{all_later}
use Rattle.due_tags.proofs.due.DueTags.is_due.Goals as goal

pub returns-in-Some-clause-none : goal.returns-in-Some-clause-none
returns-in-Some-clause-none c = λ early.
    let top = c.in-Some.field-0.now in
    let items = heap_items c.self.inside.heap in
    subst (λ (dues : List (ℕ × ℕ)). All (λ (due : ℕ × ℕ). c.args.time < due.0) dues) c.self.view_is
    (All-from_recursion (λ (due : ℕ × ℕ). c.args.time < due.0) (map (λ (due : Reverse (ℕ × ℕ)). due.0) items) (all_later c.args.time top items (leb-false top.0.0 c.args.time early) (c.in-Some.ensures.greatest c.self.invariant)))
