use Rattle.std.proofs.Common.{◌∷◌, ap, not, arith, true, ◌≡◌}
use Rattle.std.proofs.lemmas.List.Elements.{All-contains}
use Rattle.std.proofs.lemmas.List.Sorted.{length_permutation}
use Rattle.cedr_base.specs.declared.row.Row.{Row}
use Rattle.cedr_table.proofs.FilterLemmas.{among_itself, none_goes}
use Rattle.pat_state.specs.Starts.{scope_reaches}
use Rattle.pat_state.proofs.DueLemmas.{due_left, passed_goes}
use Rattle.pat_state.proofs.tagged.forget_passed.Goals as goal

pub loop-row-init : goal.loop-row-init
loop-row-init c = record {
  due = c.requires;
  same = among_itself (scope_reaches c.args.scope c.args.time) c.args.tags.now;
}

pub loop-row-smaller : goal.loop-row-smaller
loop-row-smaller c = omega (arith, length_permutation c.loop-row.due (c.in-Some.row ∷ c.pop_passed.new.self) c.in-Some.ensures.left)

pub loop-row-preserved : goal.loop-row-preserved
loop-row-preserved c =
    let was = c.loop-row.invariant in
    record {
      due = due_left c.in-Some.row c.loop-row.tags c.remove.new.self c.remove.ensures c.loop-row.due c.pop_passed.new.self was.due c.in-Some.ensures.left;
      same = passed_goes c.in-Some.row c.loop-row.tags c.remove.new.self c.remove.ensures (scope_reaches c.args.scope c.args.time) c.args.tags.now c.in-Some.ensures.passed was.same;
    }

pub returns-clause-left : goal.returns-clause-left
returns-clause-left c =
    let was = c.loop-row.invariant in
    none_goes (scope_reaches c.args.scope c.args.time) c.args.tags.now c.loop-row.tags
    (λ r there. ap not (All-contains (λ (row : Row). scope_reaches c.args.scope c.args.time row ≡ true) c.loop-row.due r c.in_default.ensures.none (was.due.each r there)))
    was.same
