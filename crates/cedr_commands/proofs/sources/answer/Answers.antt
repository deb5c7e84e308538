use Rattle.std.proofs.Common.{ℕ, List, [], sym, subst}
use Rattle.plan_serial.specs.Feeding.{AnswersInRounds}
use Rattle.plan_serial.specs.Rounds.{all_messages}
use Rattle.plan_serial.proofs.SourceLemmas.{messages_read}
use Rattle.cedr_commands.specs.Answers.{AnswersInTurns}
use Rattle.cedr_commands.specs.Seen.{seen_sink}
use Rattle.cedr_commands.proofs.EndingLemmas.{ends_text, answers_query}
use Rattle.cedr_commands.proofs.sources.answer.Goals as goal

pub returns-in-Ok : goal.returns-in-Ok
returns-in-Ok g c =
    let nodes = c.args.plan.now.nodes.items in
    let left = c.args.left.items in
    ends_text (AnswersInTurns c.args.always) nodes left (seen_sink g.K.Sink.written g.K.Sink.faults c.args.out.now) (seen_sink g.K.Sink.written g.K.Sink.faults c.write_text.new.out) c.write_text.result c.deref.result.now c.write_text.ensures
    (λ told read. answers_query c.args.always told nodes left c.deref.result.now read (c.accepted_sources.ensures told nodes (all_messages left) (messages_read told nodes left [] read))
    (λ histories whole tables. subst (λ (text : List ℕ). AnswersInRounds c.args.always nodes left histories text) (sym c.deref.ensures.value) (c.in-Ok.ensures histories whole tables)))
