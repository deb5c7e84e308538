use Rattle.std.proofs.Common.{◌++◌, ◌<◌, sym, subst, List}
use Rattle.cedr_base.specs.declared.row.Row.{Row}
use Rattle.cedr_base.specs.Rows.{count_of, SameRows}
use Rattle.cedr_base.specs.Changes.{puts, takes}
use Rattle.pat_state.specs.Starts.{all_endless, HasRow}
use Rattle.pat_state.proofs.StepLemmas.{added_stays, taken_stays, added_rows, taken_rows, has_copy}
use Rattle.pat_state.proofs.by_begin.ByBegin.apply.Goals as goal

pub invariant_of-self : goal.invariant_of-self
invariant_of-self c = added_stays c.in-Add.row c.in_ok-start-in-Add.start c.self.inside.rows c.insert.new.self c.self.invariant c.in_ok-start-in-Add.ensures c.in_ok-insert-in-Add.ensures.ok

pub invariant_of-self-then-end-row : goal.invariant_of-self-then-end-row
invariant_of-self-then-end-row c =
    let there : 0 < count_of c.in_ok-start-in-Cut.start c.self.inside.rows = has_copy c.args.change.now c.in-Cut.row c.in_ok-start-in-Cut.start c.in-Cut.end c.self.inside.rows c.in-Cut.is c.in_ok-start-in-Cut.ensures (subst (λ (rows : List Row). HasRow rows c.args.change.now) (sym c.self.view_is) c.requires) in
    taken_stays c.in_ok-start-in-Cut.start c.self.inside.rows c.take.new.self c.self.invariant (c.take.ensures.taken there)

pub returns-in_ok-insert-in-Add-clause-ok : goal.returns-in_ok-insert-in-Add-clause-ok
returns-in_ok-insert-in-Add-clause-ok c =
    subst (λ (rows : List Row). SameRows (c.insert.new.self ++ all_endless (takes c.args.change.now)) (rows ++ all_endless (puts c.args.change.now))) c.self.view_is
    (added_rows c.args.change.now c.in-Add.row c.in_ok-start-in-Add.start c.self.inside.rows c.insert.new.self c.in-Add.is c.in_ok-start-in-Add.ensures c.in_ok-insert-in-Add.ensures.ok)

pub returns-in_ok-start-in-Cut-clause-ok : goal.returns-in_ok-start-in-Cut-clause-ok
returns-in_ok-start-in-Cut-clause-ok c =
    let there : 0 < count_of c.in_ok-start-in-Cut.start c.self.inside.rows = has_copy c.args.change.now c.in-Cut.row c.in_ok-start-in-Cut.start c.in-Cut.end c.self.inside.rows c.in-Cut.is c.in_ok-start-in-Cut.ensures (subst (λ (rows : List Row). HasRow rows c.args.change.now) (sym c.self.view_is) c.requires) in
    subst (λ (rows : List Row). SameRows (c.take.new.self ++ all_endless (takes c.args.change.now)) (rows ++ all_endless (puts c.args.change.now))) c.self.view_is
    (taken_rows c.args.change.now c.in-Cut.row c.in_ok-start-in-Cut.start c.in-Cut.end c.self.inside.rows c.take.new.self c.in-Cut.is c.if-end-row.true c.in_ok-start-in-Cut.ensures (c.take.ensures.taken there))
