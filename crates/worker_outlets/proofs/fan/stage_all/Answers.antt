use Rattle.std.proofs.Common.{◌∙◌}
use Rattle.worker_outlets.proofs.fan.stage_all.Goals as goal

pub returns-in_err-stage_each-clause-bare : goal.returns-in_err-stage_each-clause-bare
returns-in_err-stage_each-clause-bare c = c.stage_each.ensures.bare ∙ c.loop-message.invariant.0

pub returns-in_err-stage_each-clause-totals : goal.returns-in_err-stage_each-clause-totals
returns-in_err-stage_each-clause-totals c = c.stage_each.ensures.totals ∙ c.loop-message.invariant.1

pub loop-message-preserved : goal.loop-message-preserved
loop-message-preserved c = (c.stage_each.ensures.bare ∙ c.loop-message.invariant.0, c.stage_each.ensures.totals ∙ c.loop-message.invariant.1, λ none. c.in_ok-stage_each.ensures.ok c.loop-message.yielded (c.loop-message.invariant.2 none))
