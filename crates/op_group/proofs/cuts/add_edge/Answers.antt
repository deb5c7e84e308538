use Rattle.std.proofs.Common.{◌≡◌, false, subst}
use Rattle.std.specs.Prelude.{IfSome, is_some}
use Rattle.std.proofs.lemmas.Result.{on_ok_weaker}
use Rattle.op_group.specs.Cuts.{IsCarried, segment_at}
use Rattle.op_group.specs.Measures.{no_totals}
use Rattle.op_group.proofs.Shown.{raise_shows, carried_shows}
use Rattle.op_group.proofs.cuts.add_edge.Goals as goal

pub returns-in_ok-insert-in-Some : goal.returns-in_ok-insert-in-Some
returns-in_ok-insert-in-Some c =
    let new = subst (λ found. IfSome found (λ s. (is_some (segment_at c.args.at c.args.cuts.now.entries) ≡ false) × IsCarried c.args.cuts.now.entries c.args.at (no_totals c.args.asked.now) s)) c.in-Some.is c.in_ok-segment.ensures.carried in
    carried_shows c.args.cuts.now.entries c.insert.new.self.entries c.args.at (no_totals c.args.asked.now) c.in-Some.segment new.0 new.1 c.in_ok-insert-in-Some.ensures.updates.0

pub returns-in-None : goal.returns-in-None
returns-in-None c = on_ok_weaker c.raise.result
    (λ e. raise_shows c.args.cuts.now.entries c.raise.new.cuts.entries c.args.at (no_totals c.args.asked.now) (c.in_ok-segment.ensures.there c.in-None.is) e) c.raise.ensures
