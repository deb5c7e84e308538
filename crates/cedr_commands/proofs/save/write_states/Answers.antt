use Rattle.std.proofs.Common.{ℕ, List, ◌++◌, ap, ◌∙◌, subst}
use Rattle.cedr_save.specs.Checkpoints.{plan_sources, checkpoint_text}
use Rattle.plan_live.specs.Resumed.{states_in}
use Rattle.cedr_commands.specs.Seen.{seen_sink}
use Rattle.cedr_commands.specs.Steps.{WritesText}
use Rattle.cedr_commands.proofs.save.write_states.Goals as goal

pub returns-in-Ok : goal.returns-in-Ok
returns-in-Ok g c =
    let whole = checkpoint_text (plan_sources c.args.plan.now.nodes.items) (states_in c.args.states.now) in
    subst (λ (text : List ℕ). WritesText c.write_text.result (seen_sink g.K.Sink.written g.K.Sink.faults c.args.out.now) (seen_sink g.K.Sink.written g.K.Sink.faults c.write_text.new.out) text) (c.deref.ensures.value ∙ (c.in-Ok.ensures.ok ∙ ap (λ (before : List ℕ). before ++ whole) c.new-text.ensures.items)) c.write_text.ensures
