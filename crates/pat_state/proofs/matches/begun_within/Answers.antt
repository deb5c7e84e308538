use Rattle.std.proofs.Common.{◌≡◌, ◌∷◌, subst}
use Rattle.std.specs.Map.Iter.{deref_pair}
use Rattle.std.proofs.lemmas.Map.Iter.{rest_more}
use Rattle.pat_state.specs.Starts.{AreInScope}
use Rattle.pat_state.proofs.FindLemmas.{begun_step}
use Rattle.pat_state.proofs.matches.begun_within.Goals as goal

pub loop-row-preserved : goal.loop-row-preserved
loop-row-preserved c =
    let is : c.loop-row.row-iterator ≡ (c.in-Some.row.now, c.in-Some.count.now) ∷ c.next.new.self = rest_more deref_pair c.loop-row.row-iterator c.next.new.self c.next.result (c.in-Some.row, c.in-Some.count) c.in-Some.is c.next.ensures.steps in
    record {
      so_far = begun_step c.args.scope c.loop-row.rows.items c.push_begun.new.rows.items _ c.loop-row.row-iterator c.next.new.self c.in-Some.row.now c.in-Some.count.now is c.in_ok-push_begun.ensures c.loop-row.invariant.so_far;
      within = (subst (AreInScope c.args.from c.args.before) is c.loop-row.invariant.within).1;
    }
