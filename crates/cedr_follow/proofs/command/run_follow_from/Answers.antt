use Rattle.std.proofs.Common.{ℕ, List, [], ◌∷◌, Option, inl, inr, ◌∙◌, subst}
use Rattle.std.specs.Prelude.{IfSome}
use Rattle.cedr_commands.proofs.EndingLemmas.{asks_more, behind_plan, held_checkpoint, opened_plan}
use Rattle.cedr_commands.specs.Outcomes.{HoldsCheckpoint}
use Rattle.cedr_commands.specs.Commands.{Command}
use Rattle.cedr_commands.specs.Resuming.{CanSavePlan}
use Rattle.cedr_commands.specs.Seen.{seen_files, seen_sink}
use Rattle.cedr_commands.specs.declared.command.Job.TheVariants.{FollowFrom}
use Rattle.cedr_follow.proofs.FollowLemmas.{asked_three, counts_followed, early_checkpoint, early_plan, early_script, ends_early}
use Rattle.cedr_follow.proofs.command.run_follow_from.Goals as goal
use Rattle.cedr_follow.specs.FollowEnds.{script_outside}
use Rattle.cedr_guard.specs.declared.state.SourceState.{SourceState}
use Rattle.cedr_save.specs.Checkpoints.{plan_sources, IsCheckpoint}
use Rattle.plan_answer.specs.Sources.{AreTold}
use Rattle.plan_follow.specs.Following.{FollowsBehind}
use Rattle.plan_follow.specs.Sifted.{sifted_behind}
use Rattle.plan_live.specs.Resumed.{lines_from, states_in}

pub returns-in-Err : goal.returns-in-Err
returns-in-Err g c =
    let command : Command = record { job = FollowFrom; file = c.args.file.now; checkpoint = c.args.checkpoint.now; script = c.args.script.now } in
    let files = seen_files g.F.Files.content g.F.Files.faults g.F.Files.asked c.args.files.now in
    let files' = seen_files g.F.Files.content g.F.Files.faults g.F.Files.asked c.open_saved.new.files in
    let out = seen_sink g.K.Sink.written g.K.Sink.faults c.args.out.now in
    ends_early command files files' out (seen_sink g.E.Sink.written g.E.Sink.faults c.args.err.now) (seen_sink g.E.Sink.written g.E.Sink.faults c.report.new.err) c.in-Err.outcome c.report.result
    (early_plan command files files' out c.in-Err.outcome (λ told kind node h. h) (λ told node h. h) c.in-Err.ensures.opened c.in-Err.ensures.counted)
    (inl c.in-Err.ensures.asked) c.in-Err.ensures.contents c.report.ensures.status c.report.ensures.reported c.report.ensures.lacking

pub returns-in-Err-open_checkpoint : goal.returns-in-Err-open_checkpoint
returns-in-Err-open_checkpoint g c =
    let checkpoint = c.args.checkpoint.now in
    let command : Command = record { job = FollowFrom; file = c.args.file.now; checkpoint = checkpoint; script = c.args.script.now } in
    let files = seen_files g.F.Files.content g.F.Files.faults g.F.Files.asked c.args.files.now in
    let now = seen_files g.F.Files.content g.F.Files.faults g.F.Files.asked c.open_saved.new.files in
    let files' = seen_files g.F.Files.content g.F.Files.faults g.F.Files.asked c.open_checkpoint.new.files in
    let out = seen_sink g.K.Sink.written g.K.Sink.faults c.args.out.now in
    ends_early command files files' out (seen_sink g.E.Sink.written g.E.Sink.faults c.args.err.now) (seen_sink g.E.Sink.written g.E.Sink.faults c.report-in-Err-open_checkpoint.new.err) c.in-Err-open_checkpoint.outcome c.report-in-Err-open_checkpoint.result
    (early_checkpoint c.args.file.now checkpoint c.args.script.now files now files' out c.in-Err-open_checkpoint.outcome c.in-Ok.plan.nodes.items (λ told is. opened_plan (files.content c.args.file.now) (told c.args.file.now) c.in-Ok.plan is.0 c.in-Ok.ensures.opened) c.in-Ok.ensures.can (c.in-Ok.ensures.contents checkpoint) c.in-Ok.ensures.counted c.in-Err-open_checkpoint.ensures.opened c.in-Err-open_checkpoint.ensures.counted)
    (inr (inl (behind_plan files files' c.args.file.now c.in-Ok.plan CanSavePlan (checkpoint ∷ []) c.in-Ok.ensures.opened c.in-Ok.ensures.can (asks_more files.asked now.asked files'.asked c.args.file.now (checkpoint ∷ []) c.in-Ok.ensures.asked c.in-Err-open_checkpoint.ensures.asked))))
    (λ name. c.in-Err-open_checkpoint.ensures.contents name ∙ c.in-Ok.ensures.contents name) c.report-in-Err-open_checkpoint.ensures.status c.report-in-Err-open_checkpoint.ensures.reported c.report-in-Err-open_checkpoint.ensures.lacking

pub returns-in-Err-find_script : goal.returns-in-Err-find_script
returns-in-Err-find_script g c =
    let checkpoint = c.args.checkpoint.now in
    let script = c.args.script.now in
    let command : Command = record { job = FollowFrom; file = c.args.file.now; checkpoint = checkpoint; script = script } in
    let files = seen_files g.F.Files.content g.F.Files.faults g.F.Files.asked c.args.files.now in
    let opened = seen_files g.F.Files.content g.F.Files.faults g.F.Files.asked c.open_saved.new.files in
    let now = seen_files g.F.Files.content g.F.Files.faults g.F.Files.asked c.open_checkpoint.new.files in
    let files' = seen_files g.F.Files.content g.F.Files.faults g.F.Files.asked c.find_script.new.files in
    let out = seen_sink g.K.Sink.written g.K.Sink.faults c.args.out.now in
    let nodes = c.in-Ok.plan.nodes.items in
    ends_early command files files' out (seen_sink g.E.Sink.written g.E.Sink.faults c.args.err.now) (seen_sink g.E.Sink.written g.E.Sink.faults c.report-in-Err-find_script.new.err) c.in-Err-find_script.outcome c.report-in-Err-find_script.result
    (early_script command files now files' out c.in-Err-find_script.outcome (c.in-Ok-open_checkpoint.ensures.counted ∙ c.in-Ok.ensures.counted) c.in-Err-find_script.ensures.unfound c.in-Err-find_script.ensures.counted)
    (inr (inr (behind_plan files files' c.args.file.now c.in-Ok.plan (λ nodes. CanSavePlan nodes × HoldsCheckpoint files checkpoint nodes) (checkpoint ∷ script ∷ []) c.in-Ok.ensures.opened
    (c.in-Ok.ensures.can, held_checkpoint files (opened.content checkpoint) checkpoint nodes (states_in c.in-Ok-open_checkpoint.states.items) (c.in-Ok.ensures.contents checkpoint) c.in-Ok-open_checkpoint.ensures.opened.1)
    (asks_more files.asked opened.asked files'.asked c.args.file.now (checkpoint ∷ script ∷ []) c.in-Ok.ensures.asked (asks_more opened.asked now.asked files'.asked checkpoint (script ∷ []) c.in-Ok-open_checkpoint.ensures.asked c.in-Err-find_script.ensures.asked)))))
    (λ name. c.in-Err-find_script.ensures.contents name ∙ (c.in-Ok-open_checkpoint.ensures.contents name ∙ c.in-Ok.ensures.contents name)) c.report-in-Err-find_script.ensures.status c.report-in-Err-find_script.ensures.reported c.report-in-Err-find_script.ensures.lacking

pub returns : goal.returns
returns g c =
    let checkpoint = c.args.checkpoint.now in
    let script = c.args.script.now in
    let files = seen_files g.F.Files.content g.F.Files.faults g.F.Files.asked c.args.files.now in
    let opened = seen_files g.F.Files.content g.F.Files.faults g.F.Files.asked c.open_saved.new.files in
    let now = seen_files g.F.Files.content g.F.Files.faults g.F.Files.asked c.find_script.new.files in
    let files' = seen_files g.F.Files.content g.F.Files.faults g.F.Files.asked c.give_back.new.self in
    let out = seen_sink g.K.Sink.written g.K.Sink.faults c.args.out.now in
    let out' = seen_sink g.K.Sink.written g.K.Sink.faults c.follow_file_from-result.new.out in
    let err = seen_sink g.E.Sink.written g.E.Sink.faults c.args.err.now in
    let told = seen_sink g.E.Sink.written g.E.Sink.faults c.follow_file_from-result.new.err in
    let nodes = c.in-Ok.plan.nodes.items in
    let states = c.in-Ok-open_checkpoint.states.items in
    let left = g.F.Source.Source.rest c.follow_file_from-result.new.source in
    let found = c.in-Ok-find_script.ensures.found in
    let holds : (told : List ℕ → List ℕ) → AreTold files.content told (checkpoint ∷ []) → IsCheckpoint (plan_sources nodes) (states_in states) (told checkpoint) = λ told is. subst (λ (content : Option (List ℕ)). IfSome content (λ bytes. IsCheckpoint (plan_sources nodes) (states_in states) bytes)) (c.in-Ok.ensures.contents checkpoint ∙ is.0) c.in-Ok-open_checkpoint.ensures.opened.1 in
    let result = c.follow_file_from-result.result in
    let followed = subst (λ (ss : List SourceState). FollowsBehind result nodes (sifted_behind (lines_from nodes (states_in ss))) script (script_outside (g.F.Source.Source.rest c.in-Ok-find_script.source) out err) (script_outside left out' told)) c.deref.ensures.value c.follow_file_from-result.ensures.followed in
    inr (record {
      nodes = nodes;
      plan = λ told is. opened_plan (files.content c.args.file.now) (told c.args.file.now) c.in-Ok.plan is.0 c.in-Ok.ensures.opened;
      can = c.in-Ok.ensures.can;
      result = result;
      left = left;
      told = told;
      followed = (states_in states, holds, subst (λ (rest : Option (List ℕ)). FollowsBehind result nodes (sifted_behind (lines_from nodes (states_in states))) script (script_outside rest out err) (script_outside left out' told)) (found.0 ∙ (c.in-Ok-open_checkpoint.ensures.contents script ∙ c.in-Ok.ensures.contents script)) followed);
      counted = counts_followed result files now files' out out' (g.F.Source.Source.faults c.in-Ok-find_script.source) (g.F.Source.Source.faults c.follow_file_from-result.new.source) (c.in-Ok-find_script.ensures.counted ∙ (c.in-Ok-open_checkpoint.ensures.counted ∙ c.in-Ok.ensures.counted)) c.requires.files_count c.requires.out_counts found.1 c.follow_file_from-result.ensures.reads c.follow_file_from-result.ensures.writes c.give_back.ensures.counted;
      went = c.outcome_of.result;
      went_as = c.outcome_of.ensures;
      answered = c.report-2.ensures.status;
      reported = c.report-2.ensures.reported;
      lacking = c.report-2.ensures.lacking;
      asked = c.give_back.ensures.asked ∙ (c.in-Ok-find_script.ensures.asked ∙ asked_three files.asked opened.asked (g.F.Files.asked c.open_checkpoint.new.files) c.args.file.now checkpoint script c.in-Ok.ensures.asked c.in-Ok-open_checkpoint.ensures.asked);
      contents = λ name. c.give_back.ensures.contents name ∙ (c.in-Ok-find_script.ensures.contents name ∙ (c.in-Ok-open_checkpoint.ensures.contents name ∙ c.in-Ok.ensures.contents name));
    })
