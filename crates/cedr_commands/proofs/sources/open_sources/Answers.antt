use Rattle.std.proofs.Common.{◌<◌, List, length, Err, sym, subst}
use Rattle.cedr_plan.specs.declared.plan.PlanNode.{PlanNode}
use Rattle.plan_serial.specs.Rounds.{ByLine, all_messages}
use Rattle.plan_serial.specs.Sources.{AnswersSources, AreReadByLine}
use Rattle.plan_serial.proofs.SourceLemmas.{messages_read}
use Rattle.plan_answer.specs.Sources.{AreTold, source_files}
use Rattle.cedr_commands.proofs.SayingLemmas.{opened_refused}
use Rattle.cedr_commands.proofs.sources.open_sources.Goals as goal

pub returns-in-Err-Events-clause-opened : goal.returns-in-Err-Events-clause-opened
returns-in-Err-Events-clause-opened g c = λ told is.
    let nodes = c.args.plan.now.nodes.items in
    let slice = c.as_slice-nodes.result.now in
    let same = c.as_slice-nodes.ensures.value in
    let faulty = c.in-Err-Events.faulty.items in
    let at = subst (λ (ns : List PlanNode). AreTold (g.F.Files.content c.args.files.now) told (source_files ns)) (sym same) is in
    let found = subst (λ e. AnswersSources (Err e) told slice) c.in-Err-Events.field-0-is (c.in-Err-Events.ensures.answer told at) in
    opened_refused told nodes slice faulty c.deref.result.now c.refuse_sources.result c.refuse_sources.ensures same c.deref.ensures.value
    (let read = subst (λ (ns : List PlanNode). (lines : ByLine) × AreReadByLine told ns lines faulty × (0 < length faulty)) same found in (all_messages read.0, messages_read told nodes read.0 faulty read.1, read.2))
