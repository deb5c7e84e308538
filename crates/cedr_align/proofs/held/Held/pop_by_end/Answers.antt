use Rattle.cedr_align.proofs.TurnLemmas.{popped_end}
use Rattle.cedr_align.proofs.held.Held.pop_by_end.Goals as goal

pub invariant_of-self : goal.invariant_of-self
invariant_of-self c =
    popped_end c.in-Some.row c.turn-other.result c.in-Some.count c.remove.result c.self.inside.by_begin c.remove.new.self c.self.inside.by_end c.pop_first.new.self c.self.invariant c.turn-other.ensures
    c.in-Some.ensures.some.1 c.remove.ensures.count c.in-Some.ensures.some.2 c.remove.ensures.removed
