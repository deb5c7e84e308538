use Rattle.std.proofs.Common.{List, sym, ◌∙◌, subst}
use Rattle.std.specs.Ordering.{nat_cmp}
use Rattle.std.specs.BTreeMap.{get}
use Rattle.open_events.specs.declared.ending.Ending.{Ending}
use Rattle.open_events.specs.Endings.{NoEndBefore}
use Rattle.open_events.proofs.EndingLemmas.{all_open}
use Rattle.open_events.proofs.events.OpenEvents.forget_ended.Goals as goal

pub returns : goal.returns
returns c = λ id.
    let self = c.loop-ending.self in
    let rows = get nat_cmp self.rows in
    sym (all_open self.ends.keys rows c.args.time self.indexed (subst (λ (es : List Ending). NoEndBefore es c.args.time) c.in_default.ensures.same c.in_default.ensures.none) id) ∙ c.loop-ending.invariant id
