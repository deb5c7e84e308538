use Rattle.std.proofs.Common.{◌≡◌, ◌∷◌, ◌∙◌, ◌+◌, ap, refl, sym, subst}
use Rattle.std.specs.Prelude.{sum_by, ◌&&◌}
use Rattle.std.specs.List.{filter}
use Rattle.std.specs.Map.Iter.{deref_pair}
use Rattle.std.proofs.lemmas.Map.Iter.{rest_more}
use Rattle.cedr_table.specs.Counted.{spread, AreThere}
use Rattle.cedr_base.specs.declared.row.Row.{Row}
use Rattle.cedr_expr.specs.Tests.{passes}
use Rattle.pat_state.specs.Starts.{begins_within}
use Rattle.pat_state.specs.Tied.{right_rows}
use Rattle.pat_unless.proofs.ScanLemmas.{blocked_beside, scan_goes_on}
use Rattle.pat_unless.proofs.terms.Terms.is_blocked.Goals as goal

pub loop-blocker-init : goal.loop-blocker-init
loop-blocker-init c = record {
  rest = blocked_beside c.args.self.now.scope c.args.self.now.tests (right_rows c.args.tied.now) c.args.row.now (c.args.row.now.begin + 1) c.later-until.result c.into_iter-blocker-iterator.result refl c.later-until.ensures
      (λ weight sought. ap (λ es. sum_by weight (filter (begins_within (c.args.row.now.begin + 1) c.later-until.result) (spread es))) c.into_iter-blocker-iterator.ensures.into_iter_gives ∙ c.beside_left-blocker-items.ensures.rows weight sought);
  there = subst AreThere (sym c.into_iter-blocker-iterator.ensures.into_iter_gives) c.beside_left-blocker-items.ensures.there;
}

pub loop-blocker-preserved : goal.loop-blocker-preserved
loop-blocker-preserved c =
    let is : c.loop-blocker.blocker-iterator ≡ (c.in-Some.blocker.now, c.in-Some.field-0-1.now) ∷ c.next.new.self = rest_more deref_pair c.loop-blocker.blocker-iterator c.next.new.self c.next.result (c.in-Some.blocker, c.in-Some.field-0-1) c.in-Some.is c.next.ensures.steps in
    record {
      rest = scan_goes_on (λ (b : Row). begins_within (c.args.row.now.begin + 1) c.later-until.result b && passes c.args.self.now.tests c.args.row.now.payload b.payload) c.loop-blocker.blocker-iterator c.next.new.self c.in-Some.blocker.now c.in-Some.field-0-1.now _ is (sym c.is_blocker.ensures ∙ c.if-is_blocker.false) c.loop-blocker.invariant.rest;
      there = (subst AreThere is c.loop-blocker.invariant.there).1;
    }
