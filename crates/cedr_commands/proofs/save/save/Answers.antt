use Rattle.std.proofs.Common.{Err, ◌∷◌, [], ◌∙◌, subst, inr}
use Rattle.cedr_commands.specs.Resuming.{CanSavePlan}
use Rattle.plan_live.specs.Judged.{JudgesScript}
use Rattle.cedr_commands.specs.Seen.{seen_files, seen_sink}
use Rattle.cedr_commands.proofs.EndingLemmas.{asks_one, asks_more, behind_plan}
use Rattle.cedr_commands.proofs.ResumeLemmas.{saves_fault, save_said}
use Rattle.cedr_commands.proofs.save.save.Goals as goal

pub returns-in-Err-Failed-clause-asked : goal.returns-in-Err-Failed-clause-asked
returns-in-Err-Failed-clause-asked g c = λ checkpoint. inr (behind_plan (seen_files g.F.Files.content g.F.Files.faults g.F.Files.asked c.args.files.now) (seen_files g.F.Files.content g.F.Files.faults g.F.Files.asked c.read_file.new.files) c.args.file.now c.in-Ok.plan CanSavePlan (c.args.script.now ∷ []) c.in-Ok.ensures.opened c.in-Ok.ensures.can (asks_more (g.F.Files.asked c.args.files.now) (g.F.Files.asked c.open_saved.new.files) (g.F.Files.asked c.read_file.new.files) c.args.file.now (c.args.script.now ∷ []) c.in-Ok.ensures.asked c.in-Err-Failed.ensures.asked))

pub returns-in-Err-OutOfMemory-clause-asked : goal.returns-in-Err-OutOfMemory-clause-asked
returns-in-Err-OutOfMemory-clause-asked g c = λ checkpoint. inr (behind_plan (seen_files g.F.Files.content g.F.Files.faults g.F.Files.asked c.args.files.now) (seen_files g.F.Files.content g.F.Files.faults g.F.Files.asked c.read_file.new.files) c.args.file.now c.in-Ok.plan CanSavePlan (c.args.script.now ∷ []) c.in-Ok.ensures.opened c.in-Ok.ensures.can (asks_more (g.F.Files.asked c.args.files.now) (g.F.Files.asked c.open_saved.new.files) (g.F.Files.asked c.read_file.new.files) c.args.file.now (c.args.script.now ∷ []) c.in-Ok.ensures.asked c.in-Err-OutOfMemory.ensures.asked))

pub returns-in-Ok-script_states-clause-asked : goal.returns-in-Ok-script_states-clause-asked
returns-in-Ok-script_states-clause-asked g c = λ checkpoint. inr (behind_plan (seen_files g.F.Files.content g.F.Files.faults g.F.Files.asked c.args.files.now) (seen_files g.F.Files.content g.F.Files.faults g.F.Files.asked c.read_file.new.files) c.args.file.now c.in-Ok.plan CanSavePlan (c.args.script.now ∷ []) c.in-Ok.ensures.opened c.in-Ok.ensures.can (asks_more (g.F.Files.asked c.args.files.now) (g.F.Files.asked c.open_saved.new.files) (g.F.Files.asked c.read_file.new.files) c.args.file.now (c.args.script.now ∷ []) c.in-Ok.ensures.asked (asks_one (g.F.Files.asked c.open_saved.new.files) (g.F.Files.asked c.read_file.new.files) c.args.script.now [] c.in-Ok-read_file.ensures.asked)))

pub returns-in-Err-Refused-clause-asked : goal.returns-in-Err-Refused-clause-asked
returns-in-Err-Refused-clause-asked g c = λ checkpoint. inr (behind_plan (seen_files g.F.Files.content g.F.Files.faults g.F.Files.asked c.args.files.now) (seen_files g.F.Files.content g.F.Files.faults g.F.Files.asked c.read_file.new.files) c.args.file.now c.in-Ok.plan CanSavePlan (c.args.script.now ∷ []) c.in-Ok.ensures.opened c.in-Ok.ensures.can (asks_more (g.F.Files.asked c.args.files.now) (g.F.Files.asked c.open_saved.new.files) (g.F.Files.asked c.read_file.new.files) c.args.file.now (c.args.script.now ∷ []) c.in-Ok.ensures.asked (asks_one (g.F.Files.asked c.open_saved.new.files) (g.F.Files.asked c.read_file.new.files) c.args.script.now [] c.in-Ok-read_file.ensures.asked)))

pub returns-clause-asked : goal.returns-clause-asked
returns-clause-asked g c = λ checkpoint. inr (behind_plan (seen_files g.F.Files.content g.F.Files.faults g.F.Files.asked c.args.files.now) (seen_files g.F.Files.content g.F.Files.faults g.F.Files.asked c.read_file.new.files) c.args.file.now c.in-Ok.plan CanSavePlan (c.args.script.now ∷ []) c.in-Ok.ensures.opened c.in-Ok.ensures.can (asks_more (g.F.Files.asked c.args.files.now) (g.F.Files.asked c.open_saved.new.files) (g.F.Files.asked c.read_file.new.files) c.args.file.now (c.args.script.now ∷ []) c.in-Ok.ensures.asked (asks_one (g.F.Files.asked c.open_saved.new.files) (g.F.Files.asked c.read_file.new.files) c.args.script.now [] c.in-Ok-read_file.ensures.asked)))

pub returns-in-Err-Refused-clause-contents : goal.returns-in-Err-Refused-clause-contents
returns-in-Err-Refused-clause-contents g c = λ n. c.in-Ok-read_file.ensures.contents n ∙ c.in-Ok.ensures.contents n

pub returns-clause-contents : goal.returns-clause-contents
returns-clause-contents g c = λ n. c.in-Ok-read_file.ensures.contents n ∙ c.in-Ok.ensures.contents n

pub returns-in-Err-Refused-clause-ends : goal.returns-in-Err-Refused-clause-ends
returns-in-Err-Refused-clause-ends g c = λ checkpoint.
    let nodes = c.in-Ok.plan.nodes.items in
    let refusal = c.in-Err-Refused.refusal in
    let fault = subst (λ e. JudgesScript (Err e) nodes c.deref.result.now) c.in-Err-Refused.field-0-is c.in-Err-Refused.ensures in
    save_said (seen_files g.F.Files.content g.F.Files.faults g.F.Files.asked c.args.files.now) (seen_files g.F.Files.content g.F.Files.faults g.F.Files.asked c.read_file.new.files) (seen_sink g.K.Sink.written g.K.Sink.faults c.args.out.now) c.args.file.now checkpoint c.args.script.now refusal c.refuse.result c.refuse.ensures (c.in-Ok-read_file.ensures.counted ∙ c.in-Ok.ensures.counted)
    (saves_fault (seen_files g.F.Files.content g.F.Files.faults g.F.Files.asked c.args.files.now) c.args.file.now c.args.script.now c.in-Ok.plan refusal (g.F.Files.content c.open_saved.new.files c.args.script.now) c.in-Ok-read_file.bytes.items c.deref.result.now c.in-Ok.ensures.opened c.in-Ok.ensures.can (c.in-Ok.ensures.contents c.args.script.now) c.in-Ok-read_file.ensures.bytes c.deref.ensures.value fault)
