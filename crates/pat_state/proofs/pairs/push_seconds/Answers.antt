use Rattle.std.proofs.Common.{◌≡◌, ◌∷◌, ◌++◌, ◌∙◌, ap}
use Rattle.std.specs.List.{flat_map}
use Rattle.std.specs.Map.Iter.{deref_pair}
use Rattle.std.proofs.lemmas.Map.Iter.{rest_more}
use Rattle.cedr_table.specs.Counted.{spread}
use Rattle.pat_state.proofs.FlatLemmas.{spread_more}
use Rattle.cedr_expr.specs.Tests.{passes}
use Rattle.pat_state.specs.Steps.{next_passing}
use Rattle.pat_state.proofs.pairs.push_seconds.Goals as goal

pub loop-row-preserved : goal.loop-row-preserved
loop-row-preserved c =
    let is : c.loop-row.row-iterator ≡ (c.in-Some.row.now, c.in-Some.count.now) ∷ c.next.new.self = rest_more deref_pair c.loop-row.row-iterator c.next.new.self c.next.result (c.in-Some.row, c.in-Some.count) c.in-Some.is c.next.ensures.steps in
    ap (λ rows. rows ++ flat_map (next_passing (passes c.args.tests.now) c.args.so_far.now) (spread c.next.new.self)) c.in_ok-push_next.ensures
    ∙ spread_more (next_passing (passes c.args.tests.now) c.args.so_far.now) c.in-Some.row.now c.in-Some.count.now c.loop-row.rows.items c.loop-row.row-iterator c.next.new.self _ is c.loop-row.invariant
