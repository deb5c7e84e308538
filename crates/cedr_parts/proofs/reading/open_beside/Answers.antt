use Rattle.std.proofs.Common.{◌<◌, List, [], length, Ok, Err, sym, subst}
use Rattle.cedr_plan.specs.declared.plan.PlanNode.{PlanNode}
use Rattle.plan_serial.specs.Rounds.{ByLine, all_messages}
use Rattle.plan_serial.specs.Sources.{AnswersSources, AreReadByLine, AreReadOf}
use Rattle.plan_serial.proofs.SourceLemmas.{messages_read}
use Rattle.plan_answer.specs.Sources.{AreTold, AsksFirst, source_files}
use Rattle.cedr_commands.proofs.SayingLemmas.{opened_refused}
use Rattle.cedr_parts.proofs.ReadingLemmas.{asked_all}
use Rattle.cedr_parts.proofs.reading.open_beside.Goals as goal

pub returns-in-Ok-note_sources-clause-opened : goal.returns-in-Ok-note_sources-clause-opened
returns-in-Ok-note_sources-clause-opened g c = λ told is.
    let same = c.as_slice-nodes.ensures.value in
    let content = g.F.Files.content c.args.files.now in
    let at = subst (λ (ns : List PlanNode). AreTold content told (source_files ns)) (sym same) is in
    subst (λ (ns : List PlanNode). AreReadByLine told ns c.in-Ok-note_sources.left.items []) same (c.in-Ok-note_sources.ensures.answer content told at c.in-Ok.ensures.read)

pub returns-in-Ok-note_sources-clause-asked : goal.returns-in-Ok-note_sources-clause-asked
returns-in-Ok-note_sources-clause-asked g c = subst (λ (ns : List PlanNode). AsksFirst (g.F.Files.asked c.args.files.now) (g.F.Files.asked c.read_beside.new.files) (source_files ns)) c.as_slice-nodes.ensures.value (asked_all _ _ _ c.in-Ok.ensures.asked)

pub returns-in-Err-Events-clause-opened : goal.returns-in-Err-Events-clause-opened
returns-in-Err-Events-clause-opened g c = λ told is.
    let nodes = c.args.plan.now.nodes.items in
    let slice = c.as_slice-nodes.result.now in
    let same = c.as_slice-nodes.ensures.value in
    let faulty = c.in-Err-Events.faulty.items in
    let content = g.F.Files.content c.args.files.now in
    let at = subst (λ (ns : List PlanNode). AreTold content told (source_files ns)) (sym same) is in
    let found = subst (λ e. AnswersSources (Err e) told slice) c.in-Err-Events.field-0-is (c.in-Err-Events.ensures.answer content told at c.in-Ok.ensures.read) in
    opened_refused told nodes slice faulty c.deref.result.now c.refuse_sources.result c.refuse_sources.ensures same c.deref.ensures.value
    (let read = subst (λ (ns : List PlanNode). (lines : ByLine) × AreReadByLine told ns lines faulty × (0 < length faulty)) same found in (all_messages read.0, messages_read told nodes read.0 faulty read.1, read.2))

pub returns-in-Err-Events-clause-asked : goal.returns-in-Err-Events-clause-asked
returns-in-Err-Events-clause-asked g c = subst (λ (ns : List PlanNode). AsksFirst (g.F.Files.asked c.args.files.now) (g.F.Files.asked c.read_beside.new.files) (source_files ns)) c.as_slice-nodes.ensures.value (asked_all _ _ _ c.in-Ok.ensures.asked)

pub returns-in-Err-OutOfMemory-note_sources-clause-asked : goal.returns-in-Err-OutOfMemory-note_sources-clause-asked
returns-in-Err-OutOfMemory-note_sources-clause-asked g c = subst (λ (ns : List PlanNode). AsksFirst (g.F.Files.asked c.args.files.now) (g.F.Files.asked c.read_beside.new.files) (source_files ns)) c.as_slice-nodes.ensures.value (asked_all _ _ _ c.in-Ok.ensures.asked)
