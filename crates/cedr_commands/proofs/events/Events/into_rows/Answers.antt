use Rattle.std.proofs.Common.{Result, Ok, Err, ap, ◌∙◌}
use Rattle.std.specs.Prelude.{IfOk, map}
use Rattle.cedr_guard.specs.History.{rows_among}
use Rattle.cedr_guard.specs.Standing.{interval_of}
use Rattle.cedr_commands.specs.Events.{living_rows}
use Rattle.cedr_commands.proofs.EventLemmas.{rows_from}
use Rattle.cedr_commands.proofs.events.Events.into_rows.Goals as goal

-- what holds of each answer that has a property
if_ok : {V E : Type 0} {P Q : V → Type 0} (result : Result V E) → ((v : V) → P v → Q v) → IfOk result P → IfOk result Q
if_ok (Ok v) more holds = more v holds
if_ok (Err e) more holds = tt

pub returns : goal.returns
returns c = if_ok c.living_rows.result
    (λ rows made lines are.
    made
    ∙ (ap (λ intervals. living_rows intervals c.args.self.payloads.items) (c.into_intervals.ensures lines are.judge)
    ∙ (ap (living_rows (map interval_of (rows_among lines))) are.payloads ∙ rows_from (rows_among lines))))
    c.living_rows.ensures
