use Rattle.std.proofs.Common.{Ok, Err, List, Option, Some, None, ◌∷◌, [], ◌∙◌, subst, inl, inr}
use Rattle.cedr_guard.specs.declared.refusal.Refusal.{Refusal}
use Rattle.cedr_guard.specs.declared.state.SourceState.{SourceState}
use Rattle.cedr_io.specs.Counts.{Counts}
use Rattle.cedr_plan.proofs.PlaceLemmas.{nodes_planned}
use Rattle.plan_live.specs.Plays.{PlaysAfter}
use Rattle.plan_live.specs.Resumed.{lines_from, states_in}
use Rattle.cedr_commands.specs.Outcomes.{HoldsCheckpoint}
use Rattle.cedr_commands.specs.Resuming.{CanSavePlan}
use Rattle.cedr_commands.specs.Seen.{seen_files, seen_sink}
use Rattle.cedr_commands.proofs.EndingLemmas.{asks_one, asks_more, behind_plan, held_checkpoint, rose_above}
use Rattle.cedr_commands.proofs.ResumeLemmas.{resumes_whole, resumes_so_far, resume_done, resume_said, resume_write, resume_lack}
use Rattle.cedr_commands.proofs.resume.resume.Goals as goal

pub returns-in-Err-open_checkpoint-clause-asked : goal.returns-in-Err-open_checkpoint-clause-asked
returns-in-Err-open_checkpoint-clause-asked g c = inr (inl (behind_plan (seen_files g.F.Files.content g.F.Files.faults g.F.Files.asked c.args.files.now) (seen_files g.F.Files.content g.F.Files.faults g.F.Files.asked c.open_checkpoint.new.files) c.args.file.now c.in-Ok.plan CanSavePlan (c.args.checkpoint.now ∷ []) c.in-Ok.ensures.opened c.in-Ok.ensures.can (asks_more (g.F.Files.asked c.args.files.now) (g.F.Files.asked c.open_saved.new.files) (g.F.Files.asked c.open_checkpoint.new.files) c.args.file.now (c.args.checkpoint.now ∷ []) c.in-Ok.ensures.asked c.in-Err-open_checkpoint.ensures.asked)))

pub returns-in-Err-Failed-clause-asked : goal.returns-in-Err-Failed-clause-asked
returns-in-Err-Failed-clause-asked g c = inr (inr (behind_plan (seen_files g.F.Files.content g.F.Files.faults g.F.Files.asked c.args.files.now) (seen_files g.F.Files.content g.F.Files.faults g.F.Files.asked c.read_file.new.files) c.args.file.now c.in-Ok.plan (λ nodes. CanSavePlan nodes × HoldsCheckpoint (seen_files g.F.Files.content g.F.Files.faults g.F.Files.asked c.args.files.now) c.args.checkpoint.now nodes) (c.args.checkpoint.now ∷ c.args.script.now ∷ []) c.in-Ok.ensures.opened
    (c.in-Ok.ensures.can, held_checkpoint (seen_files g.F.Files.content g.F.Files.faults g.F.Files.asked c.args.files.now) (g.F.Files.content c.open_saved.new.files c.args.checkpoint.now) c.args.checkpoint.now c.in-Ok.plan.nodes.items (states_in c.in-Ok-open_checkpoint.states.items) (c.in-Ok.ensures.contents c.args.checkpoint.now) c.in-Ok-open_checkpoint.ensures.opened.1)
    (asks_more (g.F.Files.asked c.args.files.now) (g.F.Files.asked c.open_saved.new.files) (g.F.Files.asked c.read_file.new.files) c.args.file.now (c.args.checkpoint.now ∷ c.args.script.now ∷ []) c.in-Ok.ensures.asked (asks_more (g.F.Files.asked c.open_saved.new.files) (g.F.Files.asked c.open_checkpoint.new.files) (g.F.Files.asked c.read_file.new.files) c.args.checkpoint.now (c.args.script.now ∷ []) c.in-Ok-open_checkpoint.ensures.asked c.in-Err-Failed.ensures.asked))))

pub returns-in-Err-OutOfMemory-clause-asked : goal.returns-in-Err-OutOfMemory-clause-asked
returns-in-Err-OutOfMemory-clause-asked g c = inr (inr (behind_plan (seen_files g.F.Files.content g.F.Files.faults g.F.Files.asked c.args.files.now) (seen_files g.F.Files.content g.F.Files.faults g.F.Files.asked c.read_file.new.files) c.args.file.now c.in-Ok.plan (λ nodes. CanSavePlan nodes × HoldsCheckpoint (seen_files g.F.Files.content g.F.Files.faults g.F.Files.asked c.args.files.now) c.args.checkpoint.now nodes) (c.args.checkpoint.now ∷ c.args.script.now ∷ []) c.in-Ok.ensures.opened
    (c.in-Ok.ensures.can, held_checkpoint (seen_files g.F.Files.content g.F.Files.faults g.F.Files.asked c.args.files.now) (g.F.Files.content c.open_saved.new.files c.args.checkpoint.now) c.args.checkpoint.now c.in-Ok.plan.nodes.items (states_in c.in-Ok-open_checkpoint.states.items) (c.in-Ok.ensures.contents c.args.checkpoint.now) c.in-Ok-open_checkpoint.ensures.opened.1)
    (asks_more (g.F.Files.asked c.args.files.now) (g.F.Files.asked c.open_saved.new.files) (g.F.Files.asked c.read_file.new.files) c.args.file.now (c.args.checkpoint.now ∷ c.args.script.now ∷ []) c.in-Ok.ensures.asked (asks_more (g.F.Files.asked c.open_saved.new.files) (g.F.Files.asked c.open_checkpoint.new.files) (g.F.Files.asked c.read_file.new.files) c.args.checkpoint.now (c.args.script.now ∷ []) c.in-Ok-open_checkpoint.ensures.asked c.in-Err-OutOfMemory.ensures.asked))))

pub returns-in-Ok-None-clause-asked : goal.returns-in-Ok-None-clause-asked
returns-in-Ok-None-clause-asked g c = inr (inr (behind_plan (seen_files g.F.Files.content g.F.Files.faults g.F.Files.asked c.args.files.now) (seen_files g.F.Files.content g.F.Files.faults g.F.Files.asked c.read_file.new.files) c.args.file.now c.in-Ok.plan (λ nodes. CanSavePlan nodes × HoldsCheckpoint (seen_files g.F.Files.content g.F.Files.faults g.F.Files.asked c.args.files.now) c.args.checkpoint.now nodes) (c.args.checkpoint.now ∷ c.args.script.now ∷ []) c.in-Ok.ensures.opened
    (c.in-Ok.ensures.can, held_checkpoint (seen_files g.F.Files.content g.F.Files.faults g.F.Files.asked c.args.files.now) (g.F.Files.content c.open_saved.new.files c.args.checkpoint.now) c.args.checkpoint.now c.in-Ok.plan.nodes.items (states_in c.in-Ok-open_checkpoint.states.items) (c.in-Ok.ensures.contents c.args.checkpoint.now) c.in-Ok-open_checkpoint.ensures.opened.1)
    (asks_more (g.F.Files.asked c.args.files.now) (g.F.Files.asked c.open_saved.new.files) (g.F.Files.asked c.read_file.new.files) c.args.file.now (c.args.checkpoint.now ∷ c.args.script.now ∷ []) c.in-Ok.ensures.asked (asks_more (g.F.Files.asked c.open_saved.new.files) (g.F.Files.asked c.open_checkpoint.new.files) (g.F.Files.asked c.read_file.new.files) c.args.checkpoint.now (c.args.script.now ∷ []) c.in-Ok-open_checkpoint.ensures.asked (asks_one (g.F.Files.asked c.open_checkpoint.new.files) (g.F.Files.asked c.read_file.new.files) c.args.script.now [] c.in-Ok-read_file.ensures.asked)))))

pub returns-in-Ok-Some-clause-asked : goal.returns-in-Ok-Some-clause-asked
returns-in-Ok-Some-clause-asked g c = inr (inr (behind_plan (seen_files g.F.Files.content g.F.Files.faults g.F.Files.asked c.args.files.now) (seen_files g.F.Files.content g.F.Files.faults g.F.Files.asked c.read_file.new.files) c.args.file.now c.in-Ok.plan (λ nodes. CanSavePlan nodes × HoldsCheckpoint (seen_files g.F.Files.content g.F.Files.faults g.F.Files.asked c.args.files.now) c.args.checkpoint.now nodes) (c.args.checkpoint.now ∷ c.args.script.now ∷ []) c.in-Ok.ensures.opened
    (c.in-Ok.ensures.can, held_checkpoint (seen_files g.F.Files.content g.F.Files.faults g.F.Files.asked c.args.files.now) (g.F.Files.content c.open_saved.new.files c.args.checkpoint.now) c.args.checkpoint.now c.in-Ok.plan.nodes.items (states_in c.in-Ok-open_checkpoint.states.items) (c.in-Ok.ensures.contents c.args.checkpoint.now) c.in-Ok-open_checkpoint.ensures.opened.1)
    (asks_more (g.F.Files.asked c.args.files.now) (g.F.Files.asked c.open_saved.new.files) (g.F.Files.asked c.read_file.new.files) c.args.file.now (c.args.checkpoint.now ∷ c.args.script.now ∷ []) c.in-Ok.ensures.asked (asks_more (g.F.Files.asked c.open_saved.new.files) (g.F.Files.asked c.open_checkpoint.new.files) (g.F.Files.asked c.read_file.new.files) c.args.checkpoint.now (c.args.script.now ∷ []) c.in-Ok-open_checkpoint.ensures.asked (asks_one (g.F.Files.asked c.open_checkpoint.new.files) (g.F.Files.asked c.read_file.new.files) c.args.script.now [] c.in-Ok-read_file.ensures.asked)))))

pub returns-in-Err-Failed-play_from-clause-asked : goal.returns-in-Err-Failed-play_from-clause-asked
returns-in-Err-Failed-play_from-clause-asked g c = inr (inr (behind_plan (seen_files g.F.Files.content g.F.Files.faults g.F.Files.asked c.args.files.now) (seen_files g.F.Files.content g.F.Files.faults g.F.Files.asked c.read_file.new.files) c.args.file.now c.in-Ok.plan (λ nodes. CanSavePlan nodes × HoldsCheckpoint (seen_files g.F.Files.content g.F.Files.faults g.F.Files.asked c.args.files.now) c.args.checkpoint.now nodes) (c.args.checkpoint.now ∷ c.args.script.now ∷ []) c.in-Ok.ensures.opened
    (c.in-Ok.ensures.can, held_checkpoint (seen_files g.F.Files.content g.F.Files.faults g.F.Files.asked c.args.files.now) (g.F.Files.content c.open_saved.new.files c.args.checkpoint.now) c.args.checkpoint.now c.in-Ok.plan.nodes.items (states_in c.in-Ok-open_checkpoint.states.items) (c.in-Ok.ensures.contents c.args.checkpoint.now) c.in-Ok-open_checkpoint.ensures.opened.1)
    (asks_more (g.F.Files.asked c.args.files.now) (g.F.Files.asked c.open_saved.new.files) (g.F.Files.asked c.read_file.new.files) c.args.file.now (c.args.checkpoint.now ∷ c.args.script.now ∷ []) c.in-Ok.ensures.asked (asks_more (g.F.Files.asked c.open_saved.new.files) (g.F.Files.asked c.open_checkpoint.new.files) (g.F.Files.asked c.read_file.new.files) c.args.checkpoint.now (c.args.script.now ∷ []) c.in-Ok-open_checkpoint.ensures.asked (asks_one (g.F.Files.asked c.open_checkpoint.new.files) (g.F.Files.asked c.read_file.new.files) c.args.script.now [] c.in-Ok-read_file.ensures.asked)))))

pub returns-clause-asked : goal.returns-clause-asked
returns-clause-asked g c = inr (inr (behind_plan (seen_files g.F.Files.content g.F.Files.faults g.F.Files.asked c.args.files.now) (seen_files g.F.Files.content g.F.Files.faults g.F.Files.asked c.read_file.new.files) c.args.file.now c.in-Ok.plan (λ nodes. CanSavePlan nodes × HoldsCheckpoint (seen_files g.F.Files.content g.F.Files.faults g.F.Files.asked c.args.files.now) c.args.checkpoint.now nodes) (c.args.checkpoint.now ∷ c.args.script.now ∷ []) c.in-Ok.ensures.opened
    (c.in-Ok.ensures.can, held_checkpoint (seen_files g.F.Files.content g.F.Files.faults g.F.Files.asked c.args.files.now) (g.F.Files.content c.open_saved.new.files c.args.checkpoint.now) c.args.checkpoint.now c.in-Ok.plan.nodes.items (states_in c.in-Ok-open_checkpoint.states.items) (c.in-Ok.ensures.contents c.args.checkpoint.now) c.in-Ok-open_checkpoint.ensures.opened.1)
    (asks_more (g.F.Files.asked c.args.files.now) (g.F.Files.asked c.open_saved.new.files) (g.F.Files.asked c.read_file.new.files) c.args.file.now (c.args.checkpoint.now ∷ c.args.script.now ∷ []) c.in-Ok.ensures.asked (asks_more (g.F.Files.asked c.open_saved.new.files) (g.F.Files.asked c.open_checkpoint.new.files) (g.F.Files.asked c.read_file.new.files) c.args.checkpoint.now (c.args.script.now ∷ []) c.in-Ok-open_checkpoint.ensures.asked (asks_one (g.F.Files.asked c.open_checkpoint.new.files) (g.F.Files.asked c.read_file.new.files) c.args.script.now [] c.in-Ok-read_file.ensures.asked)))))

pub returns-in-Ok-None-clause-ends : goal.returns-in-Ok-None-clause-ends
returns-in-Ok-None-clause-ends g c =
    let nodes = c.in-Ok.plan.nodes.items in
    let states = c.in-Ok-open_checkpoint.states.items in
    let opens = c.in-Ok-open_checkpoint.ensures.opened in
    let played = subst (λ (fault : Option Refusal). PlaysAfter (Ok fault) nodes (lines_from nodes (states_in states)) c.deref-2.result.now (g.K.Sink.written c.args.out.now) (g.K.Sink.written c.play_from.new.out)) c.in-Ok-None.field-0-is (subst (λ (ss : List SourceState). PlaysAfter (Ok c.in-Ok-None.field-0) nodes (lines_from nodes (states_in ss)) c.deref-2.result.now (g.K.Sink.written c.args.out.now) (g.K.Sink.written c.play_from.new.out)) c.deref.ensures.value c.in-Ok-None.ensures.played) in
    let are = (c.resumed_scripts.ensures.accepted nodes played.1.shapes (lines_from nodes (states_in states)) c.deref-2.result.now (c.resumed_scripts.ensures.spelt nodes states opens.0)).0 in
    resume_done (seen_files g.F.Files.content g.F.Files.faults g.F.Files.asked c.args.files.now) (seen_files g.F.Files.content g.F.Files.faults g.F.Files.asked c.read_file.new.files) (seen_sink g.K.Sink.written g.K.Sink.faults c.args.out.now) (seen_sink g.K.Sink.written g.K.Sink.faults c.play_from.new.out) c.args.file.now c.args.checkpoint.now c.args.script.now played.0 nodes (c.in-Ok-read_file.ensures.counted ∙ (c.in-Ok-open_checkpoint.ensures.counted ∙ c.in-Ok.ensures.counted)) c.in-Ok-None.ensures.counted
    (resumes_whole (seen_files g.F.Files.content g.F.Files.faults g.F.Files.asked c.args.files.now) c.args.file.now c.args.checkpoint.now c.args.script.now c.in-Ok.plan c.in-Ok.ensures.opened (nodes_planned c.in-Ok.plan c.in-Ok.ensures.plan) c.in-Ok.ensures.can (g.F.Files.content c.open_saved.new.files c.args.checkpoint.now) (g.F.Files.content c.open_checkpoint.new.files c.args.script.now) (c.in-Ok.ensures.contents c.args.checkpoint.now)
    (c.in-Ok-open_checkpoint.ensures.contents c.args.script.now ∙ c.in-Ok.ensures.contents c.args.script.now) (states_in states) opens.1 c.in-Ok-read_file.bytes.items c.deref-2.result.now played.0 c.in-Ok-read_file.ensures.bytes c.deref-2.ensures.value None played.1 are) played.2

pub returns-in-Ok-Some-clause-ends : goal.returns-in-Ok-Some-clause-ends
returns-in-Ok-Some-clause-ends g c =
    let refusal = c.in-Ok-Some.refusal in
    let nodes = c.in-Ok.plan.nodes.items in
    let states = c.in-Ok-open_checkpoint.states.items in
    let opens = c.in-Ok-open_checkpoint.ensures.opened in
    let played = subst (λ (fault : Option Refusal). PlaysAfter (Ok fault) nodes (lines_from nodes (states_in states)) c.deref-2.result.now (g.K.Sink.written c.args.out.now) (g.K.Sink.written c.play_from.new.out)) c.in-Ok-Some.field-0-is (subst (λ (ss : List SourceState). PlaysAfter (Ok c.in-Ok-Some.field-0) nodes (lines_from nodes (states_in ss)) c.deref-2.result.now (g.K.Sink.written c.args.out.now) (g.K.Sink.written c.play_from.new.out)) c.deref.ensures.value c.in-Ok-Some.ensures.played) in
    let are = (c.resumed_scripts.ensures.accepted nodes played.1.shapes (lines_from nodes (states_in states)) c.deref-2.result.now (c.resumed_scripts.ensures.spelt nodes states opens.0)).0 in
    resume_said (seen_files g.F.Files.content g.F.Files.faults g.F.Files.asked c.args.files.now) (seen_files g.F.Files.content g.F.Files.faults g.F.Files.asked c.read_file.new.files) (seen_sink g.K.Sink.written g.K.Sink.faults c.args.out.now) (seen_sink g.K.Sink.written g.K.Sink.faults c.play_from.new.out) c.args.file.now c.args.checkpoint.now c.args.script.now played.0 nodes refusal c.refuse.result c.refuse.ensures (c.in-Ok-read_file.ensures.counted ∙ (c.in-Ok-open_checkpoint.ensures.counted ∙ c.in-Ok.ensures.counted)) c.in-Ok-Some.ensures.counted
    (resumes_whole (seen_files g.F.Files.content g.F.Files.faults g.F.Files.asked c.args.files.now) c.args.file.now c.args.checkpoint.now c.args.script.now c.in-Ok.plan c.in-Ok.ensures.opened (nodes_planned c.in-Ok.plan c.in-Ok.ensures.plan) c.in-Ok.ensures.can (g.F.Files.content c.open_saved.new.files c.args.checkpoint.now) (g.F.Files.content c.open_checkpoint.new.files c.args.script.now) (c.in-Ok.ensures.contents c.args.checkpoint.now)
    (c.in-Ok-open_checkpoint.ensures.contents c.args.script.now ∙ c.in-Ok.ensures.contents c.args.script.now) (states_in states) opens.1 c.in-Ok-read_file.bytes.items c.deref-2.result.now played.0 c.in-Ok-read_file.ensures.bytes c.deref-2.ensures.value (Some refusal) played.1 are) played.2

pub returns-in-Err-Failed-play_from-clause-ends : goal.returns-in-Err-Failed-play_from-clause-ends
returns-in-Err-Failed-play_from-clause-ends g c =
    let nodes = c.in-Ok.plan.nodes.items in
    let states = c.in-Ok-open_checkpoint.states.items in
    let opens = c.in-Ok-open_checkpoint.ensures.opened in
    let played = subst (λ (ss : List SourceState). PlaysAfter (Err c.in-Err-Failed-play_from.field-0) nodes (lines_from nodes (states_in ss)) c.deref-2.result.now (g.K.Sink.written c.args.out.now) (g.K.Sink.written c.play_from.new.out)) c.deref.ensures.value c.in-Err-Failed-play_from.ensures.played in
    let are = (c.resumed_scripts.ensures.accepted nodes played.1.shapes (lines_from nodes (states_in states)) c.deref-2.result.now (c.resumed_scripts.ensures.spelt nodes states opens.0)).0 in
    let rose = subst (λ e. Counts {T = Option Refusal} (Err e) (g.K.Sink.faults c.args.out.now) (g.K.Sink.faults c.play_from.new.out)) c.in-Err-Failed-play_from.field-0-is c.in-Err-Failed-play_from.ensures.counted in
    resume_write (seen_files g.F.Files.content g.F.Files.faults g.F.Files.asked c.args.files.now) (seen_files g.F.Files.content g.F.Files.faults g.F.Files.asked c.read_file.new.files) (seen_sink g.K.Sink.written g.K.Sink.faults c.args.out.now) (seen_sink g.K.Sink.written g.K.Sink.faults c.play_from.new.out) c.args.file.now c.args.checkpoint.now c.args.script.now played.0 nodes (rose_above (g.K.Sink.faults c.args.out.now) (g.K.Sink.faults c.play_from.new.out) rose c.requires.out_counts)
    (resumes_so_far (seen_files g.F.Files.content g.F.Files.faults g.F.Files.asked c.args.files.now) c.args.file.now c.args.checkpoint.now c.args.script.now c.in-Ok.plan c.in-Ok.ensures.opened (nodes_planned c.in-Ok.plan c.in-Ok.ensures.plan) c.in-Ok.ensures.can (g.F.Files.content c.open_saved.new.files c.args.checkpoint.now) (g.F.Files.content c.open_checkpoint.new.files c.args.script.now) (c.in-Ok.ensures.contents c.args.checkpoint.now)
    (c.in-Ok-open_checkpoint.ensures.contents c.args.script.now ∙ c.in-Ok.ensures.contents c.args.script.now) (states_in states) opens.1 c.in-Ok-read_file.bytes.items c.deref-2.result.now played.0 c.in-Ok-read_file.ensures.bytes c.deref-2.ensures.value played.1 are) played.2

pub returns-clause-ends : goal.returns-clause-ends
returns-clause-ends g c =
    let nodes = c.in-Ok.plan.nodes.items in
    let states = c.in-Ok-open_checkpoint.states.items in
    let opens = c.in-Ok-open_checkpoint.ensures.opened in
    let played = subst (λ (ss : List SourceState). PlaysAfter (Err c.in-Err-OutOfMemory-play_from.field-0) nodes (lines_from nodes (states_in ss)) c.deref-2.result.now (g.K.Sink.written c.args.out.now) (g.K.Sink.written c.play_from.new.out)) c.deref.ensures.value c.in-Err-OutOfMemory-play_from.ensures.played in
    let are = (c.resumed_scripts.ensures.accepted nodes played.1.shapes (lines_from nodes (states_in states)) c.deref-2.result.now (c.resumed_scripts.ensures.spelt nodes states opens.0)).0 in
    resume_lack (seen_files g.F.Files.content g.F.Files.faults g.F.Files.asked c.args.files.now) (seen_files g.F.Files.content g.F.Files.faults g.F.Files.asked c.read_file.new.files) (seen_sink g.K.Sink.written g.K.Sink.faults c.args.out.now) (seen_sink g.K.Sink.written g.K.Sink.faults c.play_from.new.out) c.args.file.now c.args.checkpoint.now c.args.script.now played.0 nodes
    (resumes_so_far (seen_files g.F.Files.content g.F.Files.faults g.F.Files.asked c.args.files.now) c.args.file.now c.args.checkpoint.now c.args.script.now c.in-Ok.plan c.in-Ok.ensures.opened (nodes_planned c.in-Ok.plan c.in-Ok.ensures.plan) c.in-Ok.ensures.can (g.F.Files.content c.open_saved.new.files c.args.checkpoint.now) (g.F.Files.content c.open_checkpoint.new.files c.args.script.now) (c.in-Ok.ensures.contents c.args.checkpoint.now)
    (c.in-Ok-open_checkpoint.ensures.contents c.args.script.now ∙ c.in-Ok.ensures.contents c.args.script.now) (states_in states) opens.1 c.in-Ok-read_file.bytes.items c.deref-2.result.now played.0 c.in-Ok-read_file.ensures.bytes c.deref-2.ensures.value played.1 are) played.2
