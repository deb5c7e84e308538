use Rattle.std.proofs.Common.{map, ap, ◌∙◌}
use Rattle.cedr_guard.specs.declared.state.EventState.{EventState}
use Rattle.cedr_guard.specs.Spelt.{state_in}
use Rattle.cedr_guard.proofs.RestoreLemmas.{guard_restored}
use Rattle.cedr_guard.proofs.guard.Guard.restore.Goals as goal

pub returns : goal.returns
returns c = guard_restored _ (state_in c.args.state.now) c.requires c.in_ok-judge.ensures (c.in_ok-payloads.ensures ∙ ap (map (λ (e : EventState). e.payload)) c.deref.ensures.value)
