use Rattle.std.proofs.Common.{◌≡◌, ◌∷◌, ◌++◌, ◌∙◌, ap, sym, subst}
use Rattle.std.specs.List.{flat_map}
use Rattle.std.specs.Map.Iter.{deref_pair}
use Rattle.std.proofs.lemmas.Map.Iter.{rest_more}
use Rattle.cedr_base.specs.declared.row.Row.{Row}
use Rattle.cedr_table.specs.Counted.{spread}
use Rattle.pat_state.specs.Starts.{AreInScope}
use Rattle.pat_state.proofs.FlatLemmas.{spread_more}
use Rattle.cedr_expr.specs.Tests.{passes}
use Rattle.pat_state.specs.Steps.{begun, next_passing}
use Rattle.pat_state.proofs.PairLemmas.{first_copies}
use Rattle.pat_state.proofs.pairs.push_firsts.Goals as goal

pub loop-first-preserved : goal.loop-first-preserved
loop-first-preserved c =
    let is : c.loop-first.first-iterator ≡ (c.in-Some.first.now, c.in-Some.count.now) ∷ c.next.new.self = rest_more deref_pair c.loop-first.first-iterator c.next.new.self c.next.result (c.in-Some.first, c.in-Some.count) c.in-Some.is c.next.ensures.steps in
    let w = c.loop-first.invariant.within in
    let f = λ (r : Row). next_passing (passes c.args.tests.now) (begun c.args.scope r) c.args.second.now in
    record {
      so_far =
          ap (λ rows. rows ++ flat_map f (spread c.next.new.self)) (c.in_ok-push_first.ensures ∙ ap (λ rows. c.loop-first.rows.items ++ rows) (sym (first_copies c.args.scope c.args.tests.now c.in-Some.first.now c.args.second.now c.in-Some.count.now)))
          ∙ spread_more f c.in-Some.first.now c.in-Some.count.now c.loop-first.rows.items c.loop-first.first-iterator c.next.new.self _ is c.loop-first.invariant.so_far;
      within = (w.0, w.1, w.2, (subst (AreInScope w.0 w.1) is w.3).1);
    }
