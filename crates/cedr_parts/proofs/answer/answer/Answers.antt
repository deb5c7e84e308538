use Rattle.std.proofs.Common.{subst, sym, ap, List, ℕ, []}
use Rattle.cedr_text.specs.Texts.{rows_text}
use Rattle.cedr_commands.specs.Answers.{GivesPlan}
use Rattle.cedr_commands.specs.declared.command.Job.TheVariants.{Parts}
use Rattle.cedr_commands.specs.Seen.{seen_sink}
use Rattle.cedr_commands.proofs.EndingLemmas.{ends_text}
use Rattle.cedr_parts.proofs.DividedLemmas.{rows_given}
use Rattle.plan_runs.specs.Runs.{sources_in}
use Rattle.plan_serial.specs.Rounds.{all_messages}
use Rattle.plan_serial.proofs.SourceLemmas.{messages_read}
use Rattle.cedr_parts.proofs.answer.answer.Goals as goal

pub returns-in-Ok : goal.returns-in-Ok
returns-in-Ok g c = λ number.
    let nodes = c.args.plan.now.nodes.items in
    let left = c.args.left.items in
    ends_text (GivesPlan (Parts number)) nodes left (seen_sink g.K.Sink.written g.K.Sink.faults c.args.out.now) (seen_sink g.K.Sink.written g.K.Sink.faults c.write_answer.new.out) c.write_answer.result _ c.write_answer.ensures
    (λ told read. subst (λ rows. GivesPlan (Parts number) told nodes (rows_text rows)) (sym c.as_slice.ensures.value)
    (rows_given told nodes left number c.in-Ok.rows.items c.requires.divided.remembers (c.accepted_sources.ensures told nodes (all_messages left) (messages_read told nodes left [] read))
    (λ histories accepted. c.source_widths.ensures told nodes (sources_in nodes (all_messages left)) histories accepted) c.in-Ok.ensures))
