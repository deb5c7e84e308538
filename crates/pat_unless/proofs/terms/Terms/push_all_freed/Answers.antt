use Rattle.std.proofs.Common.{◌≡◌, ◌∷◌, ◌++◌, ◌∙◌, ap, subst}
use Rattle.std.specs.List.{flat_map}
use Rattle.std.specs.Map.Iter.{deref_pair}
use Rattle.std.proofs.lemmas.Map.Iter.{rest_more}
use Rattle.cedr_table.specs.Counted.{spread}
use Rattle.pat_state.specs.Starts.{AreInScope}
use Rattle.pat_state.specs.Tied.{right_rows}
use Rattle.pat_unless.specs.Steps.{freed}
use Rattle.pat_state.proofs.FlatLemmas.{spread_more}
use Rattle.pat_unless.proofs.terms.Terms.push_all_freed.Goals as goal

pub loop-row-preserved : goal.loop-row-preserved
loop-row-preserved c =
    let is : c.loop-row.row-iterator ≡ (c.in-Some.row.now, c.in-Some.count.now) ∷ c.next.new.self = rest_more deref_pair c.loop-row.row-iterator c.next.new.self c.next.result (c.in-Some.row, c.in-Some.count) c.in-Some.is c.next.ensures.steps in
    let w = c.loop-row.invariant.within in
    record {
      so_far =
          ap (λ rows. rows ++ flat_map (freed c.args.self.now.scope c.args.self.now.hold c.args.self.now.tests (right_rows c.args.tied.now) c.args.blocker.now) (spread c.next.new.self)) c.in_ok-push_freed.ensures
          ∙ spread_more (freed c.args.self.now.scope c.args.self.now.hold c.args.self.now.tests (right_rows c.args.tied.now) c.args.blocker.now) c.in-Some.row.now c.in-Some.count.now c.loop-row.rows.items c.loop-row.row-iterator c.next.new.self _ is c.loop-row.invariant.so_far;
      within = (w.0, w.1, w.2, (subst (AreInScope w.0 w.1) is w.3).1);
    }
