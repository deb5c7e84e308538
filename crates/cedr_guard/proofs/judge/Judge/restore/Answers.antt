use Rattle.std.proofs.Common.{map, refl, ap, ◌∙◌}
use Rattle.cedr_guard.specs.Ids.{place_of_id}
use Rattle.cedr_guard.specs.Spelt.{event_interval, state_in}
use Rattle.cedr_guard.proofs.RestoreLemmas.{judge_restored}
use Rattle.cedr_guard.proofs.judge.Judge.restore.Goals as goal

pub returns : goal.returns
returns c =
    judge_restored _ (state_in c.args.state.now) c.requires (c.in_ok-intervals.ensures ∙ ap (map event_interval) c.deref-2.ensures.value)
    (λ id. c.in_ok-ids.ensures id ∙ ap (place_of_id id) c.deref.ensures.value) refl
