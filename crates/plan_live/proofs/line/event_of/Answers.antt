use Rattle.std.proofs.Common.{None, Some, sym, ◌∙◌}
use Rattle.plan_live.proofs.LineLemmas.{event_found, some_event}
use Rattle.plan_live.proofs.line.event_of.Goals as goal

pub returns-in_err-place : goal.returns-in_err-place
returns-in_err-place c = rw c.from_residual-in_err-place.ensures (event_found c.args.nodes.now c.args.line.now c.in_ok-name.name.now c.in_ok-name.event.now None c.in_ok-name.ensures c.in_err-place.ensures)

pub returns : goal.returns
returns c =
    event_found c.args.nodes.now c.args.line.now c.in_ok-name.name.now c.in_ok-name.event.now (Some c.in_ok-place.place) c.in_ok-name.ensures c.in_ok-place.ensures
    ∙ some_event c.in_ok-name.event.now c.in_ok-place.place (sym c.if-is_empty.ensures)
