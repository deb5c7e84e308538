use Rattle.std.proofs.Common.{◌<◌, ◌≤◌, ◌∙◌, sym, subst, List}
use Rattle.cedr_base.specs.declared.row.Row.{Row}
use Rattle.cedr_base.specs.Rows.{count_of}
use Rattle.cedr_align.specs.Moving.{IsPopped}
use Rattle.cedr_align.proofs.TurnLemmas.{popped_both, popped_begin, none_by_end}
use Rattle.cedr_align.proofs.held.Held.pop_by_begin.Goals as goal

pub invariant_of-self : goal.invariant_of-self
invariant_of-self c =
    popped_both c.in-Some.other c.turn-row.result c.in-Some.count c.remove.result c.self.inside.by_begin c.pop_first.new.self c.self.inside.by_end c.remove.new.self c.self.invariant c.turn-row.ensures
    c.in-Some.ensures.some.1 c.remove.ensures.count c.in-Some.ensures.some.2 c.remove.ensures.removed

pub returns-in-Some-clause-some : goal.returns-in-Some-clause-some
returns-in-Some-clause-some c =
    subst (λ (rows : List Row). IsPopped c.turn-row.result c.in-Some.count rows c.remove.new.self × ((r : Row) → 0 < count_of r rows → c.turn-row.result.begin ≤ r.begin)) c.self.view_is
    (popped_begin c.in-Some.other c.turn-row.result c.in-Some.count c.remove.result c.self.inside.by_begin c.pop_first.new.self c.self.inside.by_end c.remove.new.self c.self.invariant c.turn-row.ensures
    c.in-Some.ensures.some.0 c.in-Some.ensures.some.1 c.remove.ensures.count c.remove.ensures.removed)

pub returns-in-None-clause-none : goal.returns-in-None-clause-none
returns-in-None-clause-none c = let none = none_by_end c.self.inside.by_begin c.self.inside.by_end c.self.invariant c.in-None.ensures.none.0 in (sym c.self.view_is ∙ none, none)
