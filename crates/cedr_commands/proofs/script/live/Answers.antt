use Rattle.std.proofs.Common.{Ok, Err, Option, Some, None, ◌∷◌, [], ◌∙◌, subst, inr}
use Rattle.cedr_guard.specs.declared.refusal.Refusal.{Refusal}
use Rattle.cedr_io.specs.Counts.{Counts}
use Rattle.plan_live.specs.Plays.{Plays}
use Rattle.cedr_commands.specs.Seen.{seen_files, seen_sink}
use Rattle.cedr_commands.proofs.EndingLemmas.{asks_one, asks_more, behind_plan, rose_above}
use Rattle.cedr_commands.proofs.ScriptLemmas.{plays_whole, plays_so_far, live_done, live_said, live_write, live_lack}
use Rattle.cedr_commands.proofs.script.live.Goals as goal

pub returns-in-Err-Failed-clause-asked : goal.returns-in-Err-Failed-clause-asked
returns-in-Err-Failed-clause-asked g c = λ checkpoint. inr (behind_plan (seen_files g.F.Files.content g.F.Files.faults g.F.Files.asked c.args.files.now) (seen_files g.F.Files.content g.F.Files.faults g.F.Files.asked c.read_file.new.files) c.args.file.now c.in-Ok.plan (λ nodes. Unit {0}) (c.args.script.now ∷ []) c.in-Ok.ensures.opened tt (asks_more (g.F.Files.asked c.args.files.now) (g.F.Files.asked c.open_plan.new.files) (g.F.Files.asked c.read_file.new.files) c.args.file.now (c.args.script.now ∷ []) c.in-Ok.ensures.asked c.in-Err-Failed.ensures.asked))

pub returns-in-Err-OutOfMemory-clause-asked : goal.returns-in-Err-OutOfMemory-clause-asked
returns-in-Err-OutOfMemory-clause-asked g c = λ checkpoint. inr (behind_plan (seen_files g.F.Files.content g.F.Files.faults g.F.Files.asked c.args.files.now) (seen_files g.F.Files.content g.F.Files.faults g.F.Files.asked c.read_file.new.files) c.args.file.now c.in-Ok.plan (λ nodes. Unit {0}) (c.args.script.now ∷ []) c.in-Ok.ensures.opened tt (asks_more (g.F.Files.asked c.args.files.now) (g.F.Files.asked c.open_plan.new.files) (g.F.Files.asked c.read_file.new.files) c.args.file.now (c.args.script.now ∷ []) c.in-Ok.ensures.asked c.in-Err-OutOfMemory.ensures.asked))

pub returns-in-Ok-None-clause-ends : goal.returns-in-Ok-None-clause-ends
returns-in-Ok-None-clause-ends g c = λ checkpoint.
    let nodes = c.in-Ok.plan.nodes.items in
    let played = subst (λ (fault : Option Refusal). Plays (Ok fault) nodes c.deref.result.now (g.K.Sink.written c.args.out.now) (g.K.Sink.written c.play.new.out)) c.in-Ok-None.field-0-is c.in-Ok-None.ensures.played in
    live_done (seen_files g.F.Files.content g.F.Files.faults g.F.Files.asked c.args.files.now) (seen_files g.F.Files.content g.F.Files.faults g.F.Files.asked c.read_file.new.files) (seen_sink g.K.Sink.written g.K.Sink.faults c.args.out.now) (seen_sink g.K.Sink.written g.K.Sink.faults c.play.new.out) c.args.file.now checkpoint c.args.script.now played.0 nodes (c.in-Ok-read_file.ensures.counted ∙ c.in-Ok.ensures.counted) c.in-Ok-None.ensures.counted
    (plays_whole (seen_files g.F.Files.content g.F.Files.faults g.F.Files.asked c.args.files.now) c.args.file.now c.args.script.now c.in-Ok.plan (g.F.Files.content c.open_plan.new.files c.args.script.now) c.in-Ok-read_file.bytes.items c.deref.result.now played.0 None c.in-Ok.ensures.opened (c.in-Ok.ensures.contents c.args.script.now) c.in-Ok-read_file.ensures.bytes c.deref.ensures.value played.1) played.2

pub returns-in-Ok-None-clause-asked : goal.returns-in-Ok-None-clause-asked
returns-in-Ok-None-clause-asked g c = λ checkpoint. inr (behind_plan (seen_files g.F.Files.content g.F.Files.faults g.F.Files.asked c.args.files.now) (seen_files g.F.Files.content g.F.Files.faults g.F.Files.asked c.read_file.new.files) c.args.file.now c.in-Ok.plan (λ nodes. Unit {0}) (c.args.script.now ∷ []) c.in-Ok.ensures.opened tt (asks_more (g.F.Files.asked c.args.files.now) (g.F.Files.asked c.open_plan.new.files) (g.F.Files.asked c.read_file.new.files) c.args.file.now (c.args.script.now ∷ []) c.in-Ok.ensures.asked (asks_one (g.F.Files.asked c.open_plan.new.files) (g.F.Files.asked c.read_file.new.files) c.args.script.now [] c.in-Ok-read_file.ensures.asked)))

pub returns-in-Ok-Some-clause-ends : goal.returns-in-Ok-Some-clause-ends
returns-in-Ok-Some-clause-ends g c = λ checkpoint.
    let nodes = c.in-Ok.plan.nodes.items in
    let refusal = c.in-Ok-Some.refusal in
    let played = subst (λ (fault : Option Refusal). Plays (Ok fault) nodes c.deref.result.now (g.K.Sink.written c.args.out.now) (g.K.Sink.written c.play.new.out)) c.in-Ok-Some.field-0-is c.in-Ok-Some.ensures.played in
    live_said (seen_files g.F.Files.content g.F.Files.faults g.F.Files.asked c.args.files.now) (seen_files g.F.Files.content g.F.Files.faults g.F.Files.asked c.read_file.new.files) (seen_sink g.K.Sink.written g.K.Sink.faults c.args.out.now) (seen_sink g.K.Sink.written g.K.Sink.faults c.play.new.out) c.args.file.now checkpoint c.args.script.now played.0 nodes refusal c.refuse.result c.refuse.ensures (c.in-Ok-read_file.ensures.counted ∙ c.in-Ok.ensures.counted) c.in-Ok-Some.ensures.counted
    (plays_whole (seen_files g.F.Files.content g.F.Files.faults g.F.Files.asked c.args.files.now) c.args.file.now c.args.script.now c.in-Ok.plan (g.F.Files.content c.open_plan.new.files c.args.script.now) c.in-Ok-read_file.bytes.items c.deref.result.now played.0 (Some refusal) c.in-Ok.ensures.opened (c.in-Ok.ensures.contents c.args.script.now) c.in-Ok-read_file.ensures.bytes c.deref.ensures.value played.1) played.2

pub returns-in-Ok-Some-clause-asked : goal.returns-in-Ok-Some-clause-asked
returns-in-Ok-Some-clause-asked g c = λ checkpoint. inr (behind_plan (seen_files g.F.Files.content g.F.Files.faults g.F.Files.asked c.args.files.now) (seen_files g.F.Files.content g.F.Files.faults g.F.Files.asked c.read_file.new.files) c.args.file.now c.in-Ok.plan (λ nodes. Unit {0}) (c.args.script.now ∷ []) c.in-Ok.ensures.opened tt (asks_more (g.F.Files.asked c.args.files.now) (g.F.Files.asked c.open_plan.new.files) (g.F.Files.asked c.read_file.new.files) c.args.file.now (c.args.script.now ∷ []) c.in-Ok.ensures.asked (asks_one (g.F.Files.asked c.open_plan.new.files) (g.F.Files.asked c.read_file.new.files) c.args.script.now [] c.in-Ok-read_file.ensures.asked)))

pub returns-in-Err-Failed-play-clause-ends : goal.returns-in-Err-Failed-play-clause-ends
returns-in-Err-Failed-play-clause-ends g c = λ checkpoint.
    let nodes = c.in-Ok.plan.nodes.items in
    let played = c.in-Err-Failed-play.ensures.played in
    let rose = subst (λ e. Counts {T = Option Refusal} (Err e) (g.K.Sink.faults c.args.out.now) (g.K.Sink.faults c.play.new.out)) c.in-Err-Failed-play.field-0-is c.in-Err-Failed-play.ensures.counted in
    live_write (seen_files g.F.Files.content g.F.Files.faults g.F.Files.asked c.args.files.now) (seen_files g.F.Files.content g.F.Files.faults g.F.Files.asked c.read_file.new.files) (seen_sink g.K.Sink.written g.K.Sink.faults c.args.out.now) (seen_sink g.K.Sink.written g.K.Sink.faults c.play.new.out) c.args.file.now checkpoint c.args.script.now played.0 nodes (rose_above (g.K.Sink.faults c.args.out.now) (g.K.Sink.faults c.play.new.out) rose c.requires.out_counts)
    (plays_so_far (seen_files g.F.Files.content g.F.Files.faults g.F.Files.asked c.args.files.now) c.args.file.now c.args.script.now c.in-Ok.plan (g.F.Files.content c.open_plan.new.files c.args.script.now) c.in-Ok-read_file.bytes.items c.deref.result.now played.0 c.in-Ok.ensures.opened (c.in-Ok.ensures.contents c.args.script.now) c.in-Ok-read_file.ensures.bytes c.deref.ensures.value played.1) played.2

pub returns-in-Err-Failed-play-clause-asked : goal.returns-in-Err-Failed-play-clause-asked
returns-in-Err-Failed-play-clause-asked g c = λ checkpoint. inr (behind_plan (seen_files g.F.Files.content g.F.Files.faults g.F.Files.asked c.args.files.now) (seen_files g.F.Files.content g.F.Files.faults g.F.Files.asked c.read_file.new.files) c.args.file.now c.in-Ok.plan (λ nodes. Unit {0}) (c.args.script.now ∷ []) c.in-Ok.ensures.opened tt (asks_more (g.F.Files.asked c.args.files.now) (g.F.Files.asked c.open_plan.new.files) (g.F.Files.asked c.read_file.new.files) c.args.file.now (c.args.script.now ∷ []) c.in-Ok.ensures.asked (asks_one (g.F.Files.asked c.open_plan.new.files) (g.F.Files.asked c.read_file.new.files) c.args.script.now [] c.in-Ok-read_file.ensures.asked)))

pub returns-clause-ends : goal.returns-clause-ends
returns-clause-ends g c = λ checkpoint.
    let nodes = c.in-Ok.plan.nodes.items in
    let played = c.in-Err-OutOfMemory-play.ensures.played in
    live_lack (seen_files g.F.Files.content g.F.Files.faults g.F.Files.asked c.args.files.now) (seen_files g.F.Files.content g.F.Files.faults g.F.Files.asked c.read_file.new.files) (seen_sink g.K.Sink.written g.K.Sink.faults c.args.out.now) (seen_sink g.K.Sink.written g.K.Sink.faults c.play.new.out) c.args.file.now checkpoint c.args.script.now played.0 nodes
    (plays_so_far (seen_files g.F.Files.content g.F.Files.faults g.F.Files.asked c.args.files.now) c.args.file.now c.args.script.now c.in-Ok.plan (g.F.Files.content c.open_plan.new.files c.args.script.now) c.in-Ok-read_file.bytes.items c.deref.result.now played.0 c.in-Ok.ensures.opened (c.in-Ok.ensures.contents c.args.script.now) c.in-Ok-read_file.ensures.bytes c.deref.ensures.value played.1) played.2

pub returns-clause-asked : goal.returns-clause-asked
returns-clause-asked g c = λ checkpoint. inr (behind_plan (seen_files g.F.Files.content g.F.Files.faults g.F.Files.asked c.args.files.now) (seen_files g.F.Files.content g.F.Files.faults g.F.Files.asked c.read_file.new.files) c.args.file.now c.in-Ok.plan (λ nodes. Unit {0}) (c.args.script.now ∷ []) c.in-Ok.ensures.opened tt (asks_more (g.F.Files.asked c.args.files.now) (g.F.Files.asked c.open_plan.new.files) (g.F.Files.asked c.read_file.new.files) c.args.file.now (c.args.script.now ∷ []) c.in-Ok.ensures.asked (asks_one (g.F.Files.asked c.open_plan.new.files) (g.F.Files.asked c.read_file.new.files) c.args.script.now [] c.in-Ok-read_file.ensures.asked)))
